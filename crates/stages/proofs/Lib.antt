-- What several proofs use.
pub mod BlockStageLaws
pub mod ChildLaws
pub mod BeginLaws
pub mod LentLaws
pub mod SplitStageLaws
pub mod StageEndLaws
pub mod WeakStageLaws
