mod RangeLemmas
mod FoundLemmas
mod BetweenLemmas
mod NamedLemmas
mod VerdictLemmas
mod FourthLemmas
pub mod SecondLemmas
