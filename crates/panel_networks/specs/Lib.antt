-- What the contracts of `panel_networks` cite.
pub mod Compiles
pub mod Forecasts
pub mod Checks
pub mod Evaluates
pub mod EvaluatesEach
