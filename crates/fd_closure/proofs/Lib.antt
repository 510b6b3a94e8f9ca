pub mod AllKeys
pub mod ClosedSets
pub mod ClosureLemmas
pub mod GrowthLemmas
pub mod LeftSideLemmas
pub mod SchemaLemmas
pub mod WidthLemmas
