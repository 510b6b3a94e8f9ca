pub mod JudgingLemmas
pub mod MistakenLines
pub mod MisuseLemmas
pub mod OneMistake
pub mod Outcomes
pub mod ReasonLemmas
