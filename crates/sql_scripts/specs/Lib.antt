-- The definitions of sql_scripts, in reading order: names of tables, the texts of queries, and
-- the scripts that check, measure and migrate.
pub mod Naming
pub mod Listing
pub mod Migrating
pub mod Checking
pub mod Measuring
