-- The definitions of removal_laws, in reading order: sums, how few rows must go or change, how many these are,
-- and the largest class of a group.
pub mod Counts
pub mod Removals
pub mod Errors
pub mod Classes
