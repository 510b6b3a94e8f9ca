-- The definitions of schema_reader: how values of the code are read.
pub mod Views
