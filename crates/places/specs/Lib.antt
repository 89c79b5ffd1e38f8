-- What the contracts of `places` cite.
pub mod Conditions
pub mod Members
