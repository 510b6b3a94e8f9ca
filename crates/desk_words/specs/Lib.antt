-- The definitions of desk_words, in reading order: the numbers of `sample` and `discover`, which words form which
-- command, and what a command of the code is.
pub mod Numbers
pub mod Forms
pub mod Commands
