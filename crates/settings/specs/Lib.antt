-- What the contracts of `settings` cite.
pub mod Byte
