pub mod Cuts
pub mod Digits
pub mod KindLemmas
pub mod LineEnds
pub mod QuotedNames
pub mod Quoting
mod Runs
pub mod Steps
