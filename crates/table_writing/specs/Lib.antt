-- The definitions of table_writing: what writing tables to several destinations leaves.
pub mod Writing
