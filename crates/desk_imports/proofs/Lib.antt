pub mod SchemaLemmas
pub mod LawLemmas
pub mod MeaningLemmas
