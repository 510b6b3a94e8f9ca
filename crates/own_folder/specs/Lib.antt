-- The definitions of own_folder, in reading order: the files of a migration, and what making a folder and writing them
-- leaves.
pub mod OwnFiles
pub mod OwnWriting
