-- Laws of shapes.
pub mod ShapeLaws
