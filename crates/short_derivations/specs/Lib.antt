-- The definitions of short_derivations, in reading order: lines with their reasons, the lines that values
-- of the code stand for, when a derivation is short, chains of functional dependencies,
-- and the lines of trees.
pub mod Inferences
pub mod Views
pub mod Short
pub mod Links
pub mod Emitted
pub mod Thrift
