pub mod ListLemmas
pub mod SearchLemmas
pub mod NarrowingLemmas
pub mod FoundLemmas
pub mod LeftSideKeys
