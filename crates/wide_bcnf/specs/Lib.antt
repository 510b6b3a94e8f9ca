-- The definitions of wide_bcnf, in reading order: pairs of attributes that violate, and the split
-- by them.
pub mod Pairs
pub mod WideSplits
