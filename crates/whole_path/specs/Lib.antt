-- The theorems from a table file to a grade.
pub mod WholePath
pub mod FromSpreadsheet
