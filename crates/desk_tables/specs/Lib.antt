-- The definitions of desk_tables, in reading order: rows, tables of rows, and tables joined again.
pub mod Legality
pub mod Tidiness
pub mod Migrations
pub mod OwnFolders
pub mod Overwriting
pub mod Rejoining
