-- What the contracts of `stage_plan` cite.
pub mod Planning
