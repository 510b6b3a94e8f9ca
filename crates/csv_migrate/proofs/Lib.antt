pub mod DistinctLemmas
pub mod ProjectionLemmas
pub mod CompleteLemmas
pub mod MigrationLemmas
