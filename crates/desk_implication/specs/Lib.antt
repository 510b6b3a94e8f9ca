-- The definitions of desk_implication, in reading order: a file for each command.
pub mod Implication
pub mod Explanations
pub mod Certificates
pub mod Bases
pub mod Closures
pub mod Projections
pub mod MistakeTexts
pub mod Derivations
pub mod Conclusions
