-- What several proofs use.
pub mod MoveLaws
pub mod RowLaws
