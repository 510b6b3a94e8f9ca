-- The definitions of chase_laws, in reading order: tableaux, the steps of the chase, its rounds,
-- and what it answers.
pub mod Tableaux
pub mod Steps
pub mod Rounds
pub mod Answers
