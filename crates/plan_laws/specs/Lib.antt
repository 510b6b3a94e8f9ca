-- The definitions of plan_laws: what the tests of plans say of those that commands give, the tables of a
-- migration as those of a design, and when two designs are the same.
pub mod Passing
pub mod Designed
pub mod Rejoined
pub mod SameDesigns
