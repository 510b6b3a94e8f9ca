pub mod LossLemmas
pub mod SplitLemmas
pub mod MissingLemmas
mod SynthesisTexts
mod FewestTexts
mod FewestMade
mod ShownLosses
mod ShownFirst
mod TestedLemmas
pub mod StatusLemmas
pub mod ReasonLemmas
