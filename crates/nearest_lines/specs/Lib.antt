-- The definitions of nearest_lines: which lines of a help are nearest to words.
pub mod Nearest
pub mod Words
