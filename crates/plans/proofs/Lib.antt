pub mod ListLemmas
pub mod PlanLemmas
mod ContainingLemmas
mod DroppingLemmas
mod LoopLemmas
