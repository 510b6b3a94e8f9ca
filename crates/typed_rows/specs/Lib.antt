-- The definitions of typed_rows: relations of numerals, and the same with values of each column's type.
pub mod Typed
pub mod Shown
