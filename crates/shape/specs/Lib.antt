-- What the contracts of `shape` cite.
pub mod Shapes
