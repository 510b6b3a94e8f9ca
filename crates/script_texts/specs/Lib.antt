-- The definitions of script_texts, in reading order: queries and statements that have a text of their own.
pub mod Queries
pub mod Scripts
