pub mod BranchLemmas
pub mod LackLemmas
pub mod FindLemmas
pub mod LargestLemmas
