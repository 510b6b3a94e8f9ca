pub mod RuleLemmas
mod SmallLemmas
mod KeyLemmas
pub mod NearLemmas
