mod CheckLemmas
mod ColumnLemmas
mod PrintedLemmas
pub mod ReadingLemmas
mod TextLemmas
mod ZipLemmas
