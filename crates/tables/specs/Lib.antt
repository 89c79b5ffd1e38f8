-- What the contracts of the table functions cite.
pub mod Part
pub mod Line
