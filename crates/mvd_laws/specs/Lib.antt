-- The definitions of mvd_laws, in reading order: which multivalued dependencies of one relation a list of all that
-- holds needs, and how many rows agree.
pub mod Covers
pub mod Reduced
pub mod Sizes
