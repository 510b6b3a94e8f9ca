-- The definitions of sql_check_laws: tables that hold relations, and what
-- queries tell of these.
pub mod HeldRelations
pub mod CheckedRules
