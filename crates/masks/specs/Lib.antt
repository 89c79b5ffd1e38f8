-- What the contracts of `masks` cite.
pub mod Masks
pub mod Searching
