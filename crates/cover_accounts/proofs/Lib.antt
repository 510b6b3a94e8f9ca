pub mod GatheringLemmas
pub mod CoverLemmas
pub mod PlaceLemmas
pub mod MemberLemmas
pub mod PartLemmas
