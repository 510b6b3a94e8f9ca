-- The definitions of desk_cli, in reading order: which answers the words allow, and what the whole call
-- promises.
pub mod Help
pub mod Performs
pub mod FilesRead
pub mod Desk
