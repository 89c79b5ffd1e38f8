-- What the contracts of `mask_making` cite.
pub mod Making
pub mod Marking
