pub mod BufferLemmas
pub mod AddingLemmas
pub mod FileLemmas
pub mod SqlLemmas
