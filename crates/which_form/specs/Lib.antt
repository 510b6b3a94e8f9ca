-- The definitions of which_form, in reading order: second form, the forms that a scheme is tested for, what
-- is found of one scheme, and how its keys are searched.
pub mod SecondForm
pub mod Tested
pub mod Verdicts
pub mod KeyRanges
pub mod KeySearches
