-- The definitions of plan_reader: what is read of a plan so far.
pub mod Drafts
