-- The definitions of desk_texts, in reading order: pieces of what is printed, and how refusals are
-- worded.
pub mod Texts
