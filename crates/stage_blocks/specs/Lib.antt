-- What the contracts of `stage_blocks` cite.
pub mod Blocks
