pub mod LeadLemmas
pub mod ShowingLemmas
pub mod JoiningLemmas
pub mod ProvingLemmas
