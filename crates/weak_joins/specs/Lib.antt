-- What the contracts of `weak_joins` cite.
pub mod Trying
pub mod Opening
pub mod Keeping
