-- What several proofs use.
pub mod BitLaws
pub mod KeptLaws
pub mod MarkLaws
pub mod PairLaws
pub mod TwoLaws
pub mod MakeLaws
pub mod MadeLaws
