-- What several proofs use.
pub mod LeastLaws
pub mod BelowLaws
pub mod AlongLaws
pub mod WalkLaws
