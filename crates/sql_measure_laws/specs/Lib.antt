-- The definitions of sql_measure_laws: what the queries show of a relation.
pub mod Measured
