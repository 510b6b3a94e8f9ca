-- The definitions of sql_definitions, in reading order: names, facts, types, lists, elements, wanted tables, and
-- statements.
pub mod Names
pub mod Facts
pub mod Types
pub mod Lists
pub mod Elements
pub mod Wanted
pub mod Tables
pub mod Definitions
