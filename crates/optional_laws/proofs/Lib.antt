pub mod KeyLemmas
pub mod HigherLemmas
pub mod HomeLemmas
pub mod MovedLemmas
