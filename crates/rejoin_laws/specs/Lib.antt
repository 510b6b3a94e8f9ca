-- The definitions of rejoin_laws: tables that are looked up by their keys.
pub mod ByKeys
