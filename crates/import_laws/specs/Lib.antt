-- The definitions of import_laws, in reading order: the types of columns, what is read of a table, the designs that are
-- printed, and what is imported of them.
pub mod StatedTypes
pub mod ReadTables
pub mod PrintedDesigns
pub mod ImportedTables
