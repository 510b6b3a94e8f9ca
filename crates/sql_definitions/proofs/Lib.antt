-- The lemmas of sql_definitions.
mod NameLemmas
pub mod ColumnLemmas
mod ReadingLemmas
