-- The definitions of optional_tables, in reading order: tables that may lack a row for one of the whole, where such a
-- table is looked up, designs that can be read back and what keeps them from it, the order of look-ups, and what a
-- look-up gives.
pub mod Homes
pub mod Readable
pub mod Hindrances
pub mod Order
pub mod LookUps
