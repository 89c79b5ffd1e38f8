-- Laws of `table_records`.
pub mod RecordLaws
pub mod SeenLaws
