-- The definitions of sql_measure: the query of each dependency.
pub mod Measures
