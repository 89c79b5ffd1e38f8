-- What the contracts of `panel_reads` cite.
pub mod Reads
