-- The definitions of ddl_pieces, in reading order: the statements of a design piece by piece, and as what
-- its text is cut into.
pub mod Pieces
pub mod Created
