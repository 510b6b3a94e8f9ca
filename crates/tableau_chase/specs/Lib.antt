-- The definitions of tableau_chase, in reading order: groups of rows, numbers of symbols, equating,
-- limits, the chase, its texts, and rows that are made.
pub mod Groups
pub mod Numbers
pub mod Equating
pub mod Pools
pub mod Chases
pub mod Texts
pub mod Making
pub mod RefusalTexts
