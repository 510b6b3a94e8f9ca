pub mod LookedUpLemmas
pub mod ReadBackLemmas
pub mod ByKeyLemmas
pub mod ZipLemmas
pub mod RejoinedLemmas
pub mod MovedLemmas
