pub mod PositionLemmas
pub mod OrderLemmas
pub mod HomeLemmas
pub mod ReadableLemmas
pub mod SharedLemmas
pub mod AlikeLemmas
