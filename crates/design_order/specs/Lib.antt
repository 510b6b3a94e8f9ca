-- The definitions of design_order: the order of the tables of a design.
pub mod Order
