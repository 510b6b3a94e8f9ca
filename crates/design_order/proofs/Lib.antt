pub mod GroupLemmas
pub mod OrderLemmas
