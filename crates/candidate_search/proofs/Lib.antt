pub mod PairLemmas
pub mod SideLemmas
pub mod TestLemmas
pub mod AskLemmas
pub mod FindingLemmas
pub mod LevelLemmas
pub mod FewLemmas
