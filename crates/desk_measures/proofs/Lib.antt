pub mod FlagLemmas
pub mod FindingLemmas
pub mod FieldLemmas
pub mod KeepingLemmas
pub mod TextLemmas
