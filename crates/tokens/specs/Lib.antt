-- The definitions of tokens: how values of the code are read.
pub mod Views
