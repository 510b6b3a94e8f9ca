-- The definitions of sql_syntax, in reading order: queries as values, names in SQL, the texts of
-- queries, and statements with theirs.
pub mod Syntax
pub mod Names
pub mod Printing
pub mod Statements
