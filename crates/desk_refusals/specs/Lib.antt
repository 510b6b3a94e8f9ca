-- The definitions of desk_refusals: the refusals that are printed.
-- worded.
pub mod Refusals
pub mod ProofTexts
