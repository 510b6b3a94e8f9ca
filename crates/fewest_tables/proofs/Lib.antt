pub mod FirstLemmas
pub mod AlikeLemmas
pub mod ExchangeLemmas
pub mod ThinnedLemmas
pub mod MergedLemmas
pub mod FewestLemmas
pub mod MadeLemmas
pub mod LoopLemmas
