pub mod MergeLemmas
pub mod MembershipLemmas
pub mod WholeLemmas
pub mod CanonicalLemmas
mod LoopLemmas
