-- What the contracts of `grouping` cite.
pub mod Joining
pub mod Growing
