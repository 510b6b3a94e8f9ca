-- The definitions of sql_lexemes, in reading order: bytes, where pieces end, pieces, statements, places.
pub mod Bytes
pub mod Ends
pub mod Lexemes
pub mod Pieces
pub mod Statements
pub mod Places
