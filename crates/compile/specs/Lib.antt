-- What the contracts of `compile` cite.
pub mod Compiling
pub mod Forecasting
