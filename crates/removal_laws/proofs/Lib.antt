pub mod CountLemmas
pub mod StayingLemmas
pub mod LargestLemmas
pub mod ChangeLemmas
pub mod ErrorLemmas
