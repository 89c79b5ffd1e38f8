-- What the contracts of the joins cite.
pub mod Calls
pub mod Steps
