-- Laws of text and numbers.
pub mod DecimalLaws
pub mod LongLaws
pub mod PutLaws
