-- The definitions of csv_rows, in reading order: the rows that a CSV text means or its refusal, and
-- rows as numbers.
pub mod Records
pub mod Quotes
pub mod Columns
pub mod Reading
pub mod RefusalTexts
