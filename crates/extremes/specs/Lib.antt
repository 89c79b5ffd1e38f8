-- What the contracts of `extremes` cite.
pub mod Walk
