-- Laws of `weak_joins`.
pub mod CommonLaws
pub mod TryLaws
pub mod OpenLaws
pub mod RestoreLaws
