mod PackingLemmas
pub mod PieceLemmas
pub mod ProjectionLemmas
