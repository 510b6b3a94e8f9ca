-- The definitions of desk_inputs, in reading order: which files are begun, what is known of files, what a kind
-- of file is, what a call does that reads files, and the kinds.
pub mod FilesBegun
pub mod Readings
pub mod FileKinds
pub mod FileCalls
pub mod Inputs
pub mod Plans
pub mod Rows
pub mod Parts
pub mod Headed
pub mod Sql
