-- What several proofs use.
pub mod AgreeLaws
pub mod WalkLaws
