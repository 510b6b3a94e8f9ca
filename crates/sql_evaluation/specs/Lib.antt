-- The definitions of sql_evaluation, in reading order: what stands in columns, rows, values and tests of
-- a row or a group, rows beside rows, queries, what statements and scripts do, and what tables break.
pub mod Cells
pub mod Values
pub mod Joins
pub mod Evaluation
pub mod Running
pub mod Rules
