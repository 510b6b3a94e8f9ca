-- The definitions of legality, in reading order: rows that break a dependency, what is answered,
-- and the parts of a test.
pub mod Offences
pub mod Answers
pub mod Parts
