-- The definitions of attr_sets, in reading order: sets of attributes as their tests, the sets that code
-- holds, and what is left of a set that is narrowed by a test.
pub mod Attributes
pub mod Sets
pub mod Narrowing
