-- What the contracts of `lines` cite.
pub mod Along
pub mod Walk
