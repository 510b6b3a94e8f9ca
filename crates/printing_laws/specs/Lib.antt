-- The definitions of printing_laws: what the part of a schema declares.
pub mod Parts
