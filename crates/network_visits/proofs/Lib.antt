-- What several proofs use.
pub mod VisitLaws
