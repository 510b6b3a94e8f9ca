-- The definitions of desk_covers, in reading order: a file for each command.
pub mod Sameness
pub mod Covering
pub mod CoverReasons
pub mod CoverChecks
