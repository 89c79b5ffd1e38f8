-- What the contracts of `join_tables` cite.
pub mod Parts
