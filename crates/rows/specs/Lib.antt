-- What the contracts of `rows` cite.
pub mod Grades
pub mod Blocks
