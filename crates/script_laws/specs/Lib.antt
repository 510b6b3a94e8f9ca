-- The definitions of script_laws, in reading order: what a schema has whose scripts are read back, and the scripts of
-- `sql check` and `sql measure` as statements.
pub mod Premises
pub mod Printed
