-- The definitions of html_pages, in reading order: the words of a command as a shell takes them, the style of a page,
-- and a page and its pieces.
pub mod Commands
pub mod Style
pub mod Pages
pub mod Escapes
