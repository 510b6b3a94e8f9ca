-- The definitions of schema_match, in reading order: columns by their names, dependencies carried
-- to other columns, and what differs.
pub mod Columns
pub mod Namesakes
pub mod Carried
pub mod Differences
