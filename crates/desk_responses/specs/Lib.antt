-- The definitions of desk_responses, in reading order: what a command may answer, and the lines that several
-- commands have.
pub mod ResponseValues
pub mod Lines
pub mod Responses
pub mod Reasons
pub mod Multivalued
