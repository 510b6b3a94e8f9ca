-- The definitions of desk_imports.
pub mod Imports
pub mod Columns
