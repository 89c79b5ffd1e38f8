-- What the contracts of `network_run` cite.
pub mod Grades
