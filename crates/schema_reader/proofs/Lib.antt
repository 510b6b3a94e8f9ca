pub mod FollowLemmas
pub mod ListLemmas
pub mod TextLemmas
