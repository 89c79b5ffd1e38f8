-- What the contracts of `editions` cite.
pub mod Converting
