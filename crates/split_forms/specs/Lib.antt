-- The definitions of split_forms, in reading order: lists of schemes, the split step by step, how it comes
-- about, what it answers, and why it gives up.
pub mod Lists
pub mod Splitting
pub mod Steps
pub mod Outcomes
pub mod Refusals
