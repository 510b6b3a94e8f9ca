pub mod ShapeLemmas
pub mod KeptLemmas
pub mod PairLemmas
pub mod RestLemmas
