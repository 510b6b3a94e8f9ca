-- The definitions of desk_references, in reading order: the references between files, lists of columns
-- as the words of a command state them, and the check of one reference.
pub mod Findings
pub mod ColumnLists
pub mod ColumnSteps
pub mod Checks
