-- The small tables, computed.
pub mod SmallTables
