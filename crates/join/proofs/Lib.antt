-- Laws of the join calls and of the functions that they are made of.
pub mod SetsLaws
pub mod RowLaws
pub mod OpenLaws
pub mod CallLaws
pub mod PromiseLaws
