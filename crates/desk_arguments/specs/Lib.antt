-- The definitions of desk_arguments: how goals and sets are read.
pub mod Goals
