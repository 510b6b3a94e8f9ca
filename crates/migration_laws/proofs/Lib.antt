pub mod CastLemmas
pub mod QuoteLemmas
pub mod FitLemmas
pub mod OwnNameLemmas
pub mod AnswerLemmas
pub mod BreakLemmas
