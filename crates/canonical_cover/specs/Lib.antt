-- The definitions of canonical_cover: lists whose left sides stand once, and canonical covers.
pub mod Merging
pub mod Canonical
