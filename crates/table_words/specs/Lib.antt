-- The definitions of table_words: the parts of the name of a table.
pub mod Parts
pub mod Laws
