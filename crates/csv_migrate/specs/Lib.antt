-- The definitions of csv_migrate: the tables of a migration.
pub mod Migration
