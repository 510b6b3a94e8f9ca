-- The definitions of fd_discovery, in reading order: files whose header is free, minimal functional
-- dependencies of rows, and the search for them.
pub mod Minimal
pub mod Leaders
pub mod Searching
