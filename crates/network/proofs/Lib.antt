-- What several proofs use.
pub mod CallLaws
pub mod CellsLaws
pub mod CheckLaws
pub mod EachLaws
pub mod EvaluateLaws
