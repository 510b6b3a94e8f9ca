-- The definitions of derivation, in reading order: proof trees, the table of rules, what a tree
-- proves, and the trees that are built and shortened.
pub mod Trees
pub mod Table
pub mod Conclusions
pub mod Derivs
pub mod Builders
pub mod Chains
pub mod Direct
pub mod Shortened
pub mod FaultTexts
