-- The definitions of column_types.
pub mod FirstTypes
