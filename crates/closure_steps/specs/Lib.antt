-- The definitions of closure_steps: how the closure of a set comes about, and what a set determines
-- without one of its attributes.
pub mod Steps
pub mod Without
