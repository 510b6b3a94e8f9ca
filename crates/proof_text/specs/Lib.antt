-- The definitions of proof_text, in reading order: what the reader of certificates hands on, and
-- how values of the code are read.
pub mod Outcomes
pub mod Views
