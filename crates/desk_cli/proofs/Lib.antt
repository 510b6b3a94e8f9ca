pub mod EndingLemmas
mod NoteLemmas
mod SampleLemmas
