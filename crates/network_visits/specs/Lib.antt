-- What the contracts of `network_visits` cite.
pub mod Visiting
