pub mod RelationLemmas
pub mod SoundLemmas
pub mod WithinLemmas
