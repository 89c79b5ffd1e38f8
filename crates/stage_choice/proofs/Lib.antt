-- Laws of `stage_choice`.
pub mod SpaceLaws
pub mod ChoiceLaws
