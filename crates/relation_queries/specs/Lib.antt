-- The definitions of relation_queries, in reading order: queries as terms, and what they give over a
-- relation.
pub mod Queries
pub mod Meanings
