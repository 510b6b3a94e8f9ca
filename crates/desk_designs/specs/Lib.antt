-- The definitions of desk_designs, in reading order: plans, tests of plans, and what is made of them.
pub mod Synthesis
pub mod Decompositions
pub mod NormalForms
pub mod FormsOfSchemes
pub mod TestedSchemes
pub mod Joins
pub mod Keeping
pub mod Designs
pub mod Drawings
pub mod LeftOut
pub mod SynthesisReasons
pub mod SplitReasons
pub mod FewestTables
pub mod FewestReasons
