-- What several proofs use.
pub mod PlaceLaws
pub mod MemberLaws
