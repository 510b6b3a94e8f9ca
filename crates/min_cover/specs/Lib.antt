-- The definitions of min_cover, in reading order: what members of a list say, and minimal covers.
pub mod Members
pub mod Covers
