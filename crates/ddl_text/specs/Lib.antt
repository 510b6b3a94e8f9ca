-- The definitions of ddl_text, in reading order: what keys and references of tables promise, the
-- tables of a plan, their laws, and their SQL.
pub mod KeysAndReferences
pub mod Designs
pub mod Laws
pub mod Ddl
