pub mod FindingLemmas
pub mod OneMissing
pub mod PrintingLemmas
