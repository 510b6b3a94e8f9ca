-- The definitions of desk_exhibits: the relation that is printed.
pub mod Exhibits
