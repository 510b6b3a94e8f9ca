pub mod OverlongLemmas
