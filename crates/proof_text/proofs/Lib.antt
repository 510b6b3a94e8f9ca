pub mod BookLemmas
pub mod PrintingLemmas
pub mod TextLemmas
