-- What several proofs use.
pub mod AnswerLaws
