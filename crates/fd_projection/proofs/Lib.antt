pub mod MinimalLemmas
pub mod PartLemmas
pub mod FoundLemmas
pub mod ProjectionLemmas
