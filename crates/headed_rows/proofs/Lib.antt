pub mod FieldLemmas
pub mod HeaderLemmas
pub mod HeadingLemmas
pub mod UniqueHeaded
