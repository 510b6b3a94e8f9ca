-- The definitions of row_measures, in reading order: broken groups by numbers, the numbers of a dependency,
-- and what is answered.
pub mod Broken
pub mod Chains
pub mod Sorted
pub mod Answers
pub mod ByClass
pub mod ByPart
pub mod Laws
