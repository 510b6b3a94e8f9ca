-- The definitions of synthesis_3nf, in reading order: groups of a cover, and the plan of them.
pub mod Groups
pub mod GroupedPlans
