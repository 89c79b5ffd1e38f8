-- What the contracts of `panel_answers` cite.
pub mod Answers
