-- What several proofs use.
pub mod EditionLaws
pub mod ConvertLaws
