-- The definitions of derivation_rules, in reading order: the further rules, their table, and the rules
-- that values of the code stand for.
pub mod FurtherRules
pub mod FurtherTable
pub mod Views
