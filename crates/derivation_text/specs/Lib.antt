-- The definitions of derivation_text: how values of the code are read.
pub mod Views
