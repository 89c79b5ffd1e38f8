-- What the contracts of stages cite.
pub mod Staging
pub mod Begins
