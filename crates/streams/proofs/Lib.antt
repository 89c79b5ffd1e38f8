-- What proofs of the programs use.
pub mod InputLaws
