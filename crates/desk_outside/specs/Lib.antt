-- The definitions of desk_outside, in reading order: why a call outside failed, files, the names that
-- were begun, folders, which names are free for one, planned faults, and the outside in memory.
pub mod Causes
pub mod Files
pub mod Begun
pub mod Folders
pub mod FreeNames
pub mod Planned
pub mod Memory
