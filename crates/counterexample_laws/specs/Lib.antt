-- The definitions of counterexample_laws: what rows show.
pub mod Counterexamples
