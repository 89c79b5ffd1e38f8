-- Laws of `network_run`.
pub mod GradeLaws
pub mod ReadLaws
pub mod ValueLaws
pub mod WorkLaws
pub mod BelowLaws
