-- What the contracts of `table_file` cite.
pub mod Reading
