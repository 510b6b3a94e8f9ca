-- The definitions of plan_printer: how plans are printed, and plans with names of tables.
pub mod NamedPlans
pub mod Printing
