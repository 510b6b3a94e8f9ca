pub mod RowLemmas
pub mod RecordLemmas
pub mod HeaderLemmas
pub mod QuoteLemmas
mod QuoteJumps
pub mod ReadingLemmas
pub mod UniqueRows
pub mod PrintedTexts
pub mod PrintedRows
