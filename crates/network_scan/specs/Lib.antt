-- What the contracts of `network_scan` cite.
pub mod Kinds
