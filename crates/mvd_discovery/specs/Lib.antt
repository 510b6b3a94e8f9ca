-- The definitions of mvd_discovery, in reading order: counts of rows that agree, the reduced dependencies that were
-- found so far, and all that rows obey.
pub mod Counting
pub mod Listing
pub mod Finding
