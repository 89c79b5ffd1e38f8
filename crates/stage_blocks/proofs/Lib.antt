-- Laws of `stage_blocks`.
pub mod BlockLaws
