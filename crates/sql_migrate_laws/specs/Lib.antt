-- The definitions of sql_migrate_laws: what an engine has after a run of the script.
pub mod Ending
pub mod Moved
pub mod Crossing
