-- What the contracts of `network_records` cite.
pub mod Putting
