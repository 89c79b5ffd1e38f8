-- What the contracts of `stage_choice` cite.
pub mod Choosing
