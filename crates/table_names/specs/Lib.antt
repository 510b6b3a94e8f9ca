-- The definitions of table_names: the names of tables.
pub mod TableNames
