-- The definitions of destinations, in reading order: folders that gather, SQL, what each file of a table has, and
-- what writing files leaves.
pub mod Gathering
pub mod Sql
pub mod Formats
pub mod Writing
