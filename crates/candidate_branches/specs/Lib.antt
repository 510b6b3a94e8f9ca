-- The definitions of candidate_branches, in reading order: the branches of the search, and the evidence that it needs.
pub mod Branches
pub mod Largest
