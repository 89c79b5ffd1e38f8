-- What several proofs use.
pub mod BitLaws
