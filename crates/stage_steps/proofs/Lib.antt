-- What several proofs use.
pub mod CutLaws
pub mod EndLaws
pub mod ExtentLaws
pub mod LayLaws
pub mod ValueLaws
pub mod WantLaws
