-- The definitions of row_groups: rows and values by numbers, and the buckets by which they are numbered.
-- rows as numbers.
pub mod Numberings
pub mod Pairs
pub mod Buckets
pub mod Interning
