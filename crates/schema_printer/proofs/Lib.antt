pub mod MemberLemmas
pub mod PrintLemmas
pub mod SpellingLemmas
pub mod ChosenLemmas
pub mod PartLemmas
