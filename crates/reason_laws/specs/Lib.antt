-- The definition of reason_laws: a text without its reasons.
pub mod ReasonLines
