pub mod BitLemmas
pub mod OrderLemmas
pub mod AttributesLemmas
pub mod UpToLemmas
pub mod NarrowingLemmas
