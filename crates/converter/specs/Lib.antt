-- What the contracts of `converter` cite.
pub mod Replying
