pub mod PairLemmas
pub mod CoreLemmas
pub mod SplitLemmas
pub mod OneSplit
