-- The definitions of schema_printer: the texts of sets, dependencies and schemas.
pub mod Printing
pub mod Spelling
pub mod Parts
