-- The definitions of plans, in reading order: schemes, plans, containment, and the text of a plan.
pub mod Schemes
pub mod Plans
pub mod Containing
