pub mod ChainSteps
pub mod ComposedLemmas
pub mod EmittedLemmas
pub mod LinkLemmas
pub mod NeededLemmas
pub mod PushedLines
