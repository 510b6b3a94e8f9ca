-- The definitions of column_values, in reading order: digits, the texts of each type, the values of
-- columns, and the values that are made up.
pub mod Digits
pub mod Calendar
pub mod Decimals
pub mod Uuids
pub mod Values
pub mod MadeUp
