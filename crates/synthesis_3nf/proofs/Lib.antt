pub mod GroupSchemes
pub mod GroupLemmas
pub mod ThirdLemmas
pub mod LosslessLemmas
pub mod CompleteLemmas
pub mod MadeLemmas
pub mod WithinLemmas
mod LoopLemmas
mod PartLemmas
