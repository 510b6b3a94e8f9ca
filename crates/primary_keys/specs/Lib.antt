-- The definitions of primary_keys.
pub mod PrimaryKeys
