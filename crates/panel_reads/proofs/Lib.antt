-- Laws of `panel_reads`.
pub mod ReadLaws
