-- The definitions of table_laws: what the references of a design leave out.
pub mod References
