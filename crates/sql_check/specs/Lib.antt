-- The definitions of sql_check, in reading order: columns, and the queries over them.
pub mod Columns
pub mod Checks
