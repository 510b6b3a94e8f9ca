-- The definitions of short_proofs, in reading order: the derivations that are listed, and what is found
-- of them.
pub mod Short
pub mod Shapes
