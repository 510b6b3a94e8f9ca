-- The definitions of desk_measures, in reading order: rows that are read without types, what is found wrong, the
-- rows that are at odds, how far rows are from legal, which of these is told, and the rows that can stay.
pub mod Untyped
pub mod Findings
pub mod Offences
pub mod Measures
pub mod BreachFindings
pub mod Keeping
