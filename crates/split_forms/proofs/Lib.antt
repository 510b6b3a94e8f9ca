pub mod StepLemmas
pub mod SizeLemmas
pub mod SplitLemmas
pub mod LeadLemmas
pub mod WalkLemmas
