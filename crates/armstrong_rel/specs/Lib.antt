-- The definitions of armstrong_rel, in reading order: closed sets, those that are no intersection
-- of others, and the relation of them that is printed.
pub mod ClosedSets
pub mod Exhibits
pub mod Closures
pub mod Refusals
pub mod Parts
pub mod Searching
