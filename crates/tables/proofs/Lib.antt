-- What several proofs use.
pub mod PartLaws
pub mod LendLaws
pub mod ScanLaws
pub mod LineLaws
pub mod OverLaws
pub mod PackLaws
pub mod ZeroLaws
