pub mod ColumnLemmas
pub mod NameLemmas
pub mod NumeralLemmas
pub mod PlainLemmas
mod SameDeps
pub mod SchemaLemmas
