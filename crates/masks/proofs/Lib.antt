-- What several proofs use.
pub mod MaskLaws
pub mod ExchangeLaws
pub mod ScanLaws
pub mod AddLaws
pub mod UnionLaws
pub mod SearchLaws
pub mod SplitLaws
pub mod CofactorLaws
pub mod KnownLaws
