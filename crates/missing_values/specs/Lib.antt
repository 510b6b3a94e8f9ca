-- The definitions of missing_values, in reading order: where attributes stand of which a value may be
-- missing, and what is said of it.
pub mod Missing
pub mod Refusals
