-- The definitions of schema_grammar: what schema texts, goals and sets mean and how they are
-- refused; `Meanings`, `Schemas` and `Sets` come first.
pub mod DiagnosticKinds
pub mod Diagnostics
pub mod Declarations
pub mod Grammar
pub mod Laws
pub mod LineTokens
pub mod Meanings
pub mod Printed
pub mod Reading
pub mod Refusals
pub mod Rests
pub mod Schemas
pub mod Sets
pub mod Texts
pub mod Words
pub mod RefusalTexts
