-- The definitions of sample_rows: the schema and the rows that are made from a number.
pub mod Sample
