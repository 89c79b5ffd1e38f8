-- Laws of `join_tables`.
pub mod BlindLaws
pub mod HoldLaws
pub mod TurnLaws
pub mod StepLaws
pub mod JudgeLaws
