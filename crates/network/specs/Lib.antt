-- What the contracts of `network` cite.
pub mod Evaluating
pub mod EvaluatingEach
pub mod Checking
