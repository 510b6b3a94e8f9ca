-- The definitions of headed_rows: what the rows of a text with a free header are, and how it is refused.
-- dependencies of rows, and the search for them.
pub mod Headers
pub mod Headings
pub mod RefusalTexts
