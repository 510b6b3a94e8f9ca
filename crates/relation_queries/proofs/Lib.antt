pub mod BreachLemmas
pub mod CompatibleLemmas
pub mod JoinedLemmas
