-- The definitions of derivation_grammar: what derivations mean and how they are refused; `Meanings`,
-- `Derivations` and `Refusals` come first.
pub mod Derivations
pub mod Laws
pub mod LineDiagnostics
pub mod Lines
pub mod Meanings
pub mod Refusals
pub mod Texts
