-- The definitions of optional_laws.
pub mod KeyOrder
