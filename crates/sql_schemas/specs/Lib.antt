-- The definitions of sql_schemas, in reading order: keys, the text of a schema, what its text declares, and which
-- statements are about a table.
pub mod Keys
pub mod KeyValues
pub mod Texts
pub mod Meaning
pub mod About
