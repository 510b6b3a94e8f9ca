-- The definitions of fd_closure, in reading order: functionally closed sets, sets that grow, closures,
-- counting, lists of keys, left sides, and what follows from a list.
pub mod FunctionallyClosed
pub mod Growth
pub mod Closures
pub mod Counting
pub mod KeyLists
pub mod LeftSides
pub mod Following
