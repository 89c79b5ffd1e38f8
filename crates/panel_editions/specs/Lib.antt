-- What the contracts of `panel_editions` cite.
pub mod Converts
