-- Laws of `stage_drops`.
pub mod DropLaws
pub mod CanDropLaws
pub mod LastLaws
