-- The definitions of migration_laws: what is asked of a state, a design and an engine, answers whose script ends,
-- and an engine.
pub mod Ready
pub mod Printed
pub mod Casting
pub mod Strict
