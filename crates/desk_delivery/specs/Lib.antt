-- The definitions of desk_delivery: what a call ends with, once the destinations are written.
pub mod Outcomes
