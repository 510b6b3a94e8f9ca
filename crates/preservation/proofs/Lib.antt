pub mod KeepingLemmas
pub mod KnownLemmas
pub mod LossLemmas
