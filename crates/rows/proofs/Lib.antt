-- What several proofs use.
pub mod GradesLaws
pub mod BlockLaws
pub mod RowLaws
