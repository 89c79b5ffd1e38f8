-- What the contracts of `streams` cite.
pub mod Filling
