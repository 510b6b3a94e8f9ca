-- The definitions of near_rules, in reading order: minimal dependencies that nearly hold, and the search for them.
pub mod NearRules
pub mod Searching
