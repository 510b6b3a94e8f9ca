-- The definitions of named_tables: tables with names.
pub mod Choices
pub mod Tables
