pub mod SampleLemmas
pub mod SchemaLemmas
