pub mod PrintingLemmas
pub mod NameLemmas
