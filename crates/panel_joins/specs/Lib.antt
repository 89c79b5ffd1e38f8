-- What the contracts of `panel_joins` cite.
pub mod Joins
