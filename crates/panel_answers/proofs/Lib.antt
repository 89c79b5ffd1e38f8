-- Laws of `panel_answers`.
pub mod ShapeLaws
pub mod OutcomeLaws
