-- The definitions of derivation_printer, in reading order: the text of a derivation, and the law of what it
-- derives.
pub mod Printing
pub mod Laws
