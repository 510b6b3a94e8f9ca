-- The definitions of proof_grammar: what certificates spell and how they are refused; `Meanings`,
-- `Spelling` and `Refusals` come first.
pub mod CheckerStates
pub mod Checked
pub mod Diagnostics
pub mod Laws
pub mod ValidStates
pub mod LineDiagnostics
pub mod Lines
pub mod Meanings
pub mod Nodes
pub mod Printable
pub mod Printing
pub mod Readers
pub mod Refusals
pub mod Spelling
pub mod Texts
pub mod Tokens
pub mod Wrongs
pub mod RefusalTexts
