pub mod StepLemmas
pub mod WithoutLemmas
