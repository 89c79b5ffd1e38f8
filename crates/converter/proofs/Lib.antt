-- What several proofs use.
pub mod ReplyLaws
