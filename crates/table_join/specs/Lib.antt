-- The definitions of table_join, in reading order: tables, their join in an order, what the join answers, tables that are
-- looked up, and how all that is computed.
pub mod Tables
pub mod Joins
pub mod Answers
pub mod LookUps
pub mod Found
pub mod Lent
pub mod Keys
pub mod Seams
pub mod Matches
pub mod Factors
pub mod Brackets
pub mod RefusalTexts
