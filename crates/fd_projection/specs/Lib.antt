-- The definitions of fd_projection, in reading order: the minimal functional dependencies inside a
-- set and what is left of them, why they are not listed, and closures on the way.
pub mod Projections
pub mod Refusals
pub mod Closures
