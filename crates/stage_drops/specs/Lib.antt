-- What the contracts of `stage_drops` cite.
pub mod Working
