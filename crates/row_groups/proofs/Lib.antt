pub mod NumberingLemmas
pub mod PairLemmas
pub mod LeaderLemmas
pub mod BucketLemmas
