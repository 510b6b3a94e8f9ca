-- The definitions of desk_process: what the program hands in, and what it ends with.
pub mod Running
