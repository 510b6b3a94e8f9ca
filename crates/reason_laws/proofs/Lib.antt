mod LineLemmas
pub mod NameTexts
pub mod NumberTexts
mod SchemaTexts
mod CoverTexts
mod ReasonTexts
mod FewestTexts
