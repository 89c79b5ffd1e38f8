-- What the contracts of a stage's steps cite.
pub mod Cuts
pub mod Ends
pub mod Extents
pub mod Rows
pub mod Values
pub mod Wanting
