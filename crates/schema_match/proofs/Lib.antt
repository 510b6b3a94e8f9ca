pub mod RenamingLemmas
pub mod NameLemmas
pub mod MatchLemmas
pub mod CarryLemmas
pub mod DifferenceLemmas
