-- The definitions of fd_search: minimal dependencies of few attributes on the left, and left sides with their
-- attributes in one list.
pub mod Small
pub mod Listing
pub mod Keys
pub mod Numbered
