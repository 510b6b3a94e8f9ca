-- The definitions of sql_migrate, in reading order: columns that go from table to table, and the
-- script.
pub mod Moving
pub mod Script
