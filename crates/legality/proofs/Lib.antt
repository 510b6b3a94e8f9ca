mod CodeLemmas
pub mod PairLemmas
pub mod CountLemmas
pub mod PartLemmas
pub mod OffenceLemmas
pub mod OffenceLaws
