-- The definitions of candidate_sets, in reading order: where an ascending list is cut, and the sets
-- that a step keeps and adds.
pub mod Cuts
pub mod Growing
pub mod Evidence
pub mod Standing
pub mod Steps
