pub mod ListLemmas
pub mod MemberLemmas
pub mod ThinningLemmas
pub mod CoverLemmas
