mod AddressLemmas
pub mod DepLemmas
pub mod DistinctLemmas
pub mod FailureLemmas
pub mod FormLemmas
pub mod ImplicationLemmas
pub mod JoinLemmas
pub mod KeyLemmas
mod LawLemmas
pub mod ListLemmas
pub mod OrderedLists
pub mod PairLemmas
pub mod PartLemmas
pub mod PermutationLemmas
pub mod PreservationLemmas
pub mod RuleLemmas
pub mod SchemeLemmas
pub mod TheoryLemmas
pub mod TupleLemmas
pub mod TwoRowLemmas
pub mod TwoTupleLemmas
