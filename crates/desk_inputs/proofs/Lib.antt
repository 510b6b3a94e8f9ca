pub mod BegunLemmas
pub mod CallLemmas
mod FilesLemmas
mod KindLemmas
mod PartLemmas
pub mod ReadingLemmas
