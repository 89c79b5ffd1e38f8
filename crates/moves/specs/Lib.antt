-- What the contracts of `moves` cite.
pub mod Move
pub mod Row
