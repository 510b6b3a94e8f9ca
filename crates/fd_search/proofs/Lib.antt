pub mod ListLemmas
pub mod FoundLemmas
pub mod SmallLemmas
pub mod NameLemmas
pub mod KeyLemmas
