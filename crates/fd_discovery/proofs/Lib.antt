pub mod OrderLemmas
pub mod LeaderLemmas
pub mod GivenLemmas
pub mod SearchLemmas
