-- The definitions of schema_model, in reading order: names, types of columns, and schemas.
pub mod Names
pub mod HeldBytes
pub mod Integers
pub mod Columns
pub mod Validity
pub mod Schemas
