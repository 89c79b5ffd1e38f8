-- Laws of records and their bytes.
pub mod LiteralLaws
pub mod PutLaws
