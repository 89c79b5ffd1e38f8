-- What several proofs use.
pub mod JoiningLaws
pub mod KeptLaws
pub mod GrowLaws
pub mod GroupedLaws
