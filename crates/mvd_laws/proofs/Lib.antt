pub mod DecideLemmas
pub mod BlockLemmas
pub mod ListLemmas
pub mod SizeLemmas
