-- What the contracts of `table_records` cite.
pub mod Records
