mod PrintedGoals
pub mod CodedLemmas
mod NumberedMembers
pub mod PrintedParts
