-- The definitions of key_listing, in reading order: all keys of a scheme, the search for them, and
-- too many of them.
pub mod Listing
pub mod Searching
pub mod Narrowing
pub mod Refusals
