pub mod OrderLemmas
pub mod HomeLemmas
pub mod MissingLemmas
pub mod JoinedLemmas
pub mod FoundLemmas
pub mod ReadBackLemmas
