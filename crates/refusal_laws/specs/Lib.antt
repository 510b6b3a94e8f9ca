-- The definition of refusal_laws: what every refusal is.
pub mod Refusals
