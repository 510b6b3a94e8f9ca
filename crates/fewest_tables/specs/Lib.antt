-- The definitions of fewest_tables, in reading order: groups of left sides, the plan of them,
-- designs by keys, and the steps of the code.
pub mod Alike
pub mod MergedPlans
pub mod KeyedDesigns
pub mod FewestSteps
