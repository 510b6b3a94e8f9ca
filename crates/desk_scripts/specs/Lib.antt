-- The definitions of desk_scripts: the scripts that are printed.
pub mod Scripts
