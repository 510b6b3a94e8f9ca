-- The definitions of file_references, in reading order: rows at lists of columns, inclusion dependencies
-- between files, rows without a match, and how references are found.
pub mod Columns
pub mod References
pub mod Matches
pub mod Keys
pub mod Finds
