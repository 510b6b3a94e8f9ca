-- The definitions of candidate_search: two rows that do not obey a dependency, rows in groups by a set, the
-- left sides of each right side, what is asked of rows, and few rows.
pub mod Pairs
pub mod Levels
pub mod Sides
pub mod Asking
pub mod Findings
pub mod Few
