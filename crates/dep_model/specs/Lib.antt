-- The definitions of dep_model, in reading order: relations, dependencies and implication, keys,
-- normal forms and plans; then the dependencies of the code, and theories.
pub mod Tuples
pub mod Dependencies
pub mod Failures
pub mod Implication
pub mod Projections
pub mod JoinOrders
pub mod OnSchemes
pub mod Keys
pub mod Forms
pub mod Plans
pub mod Preservation
pub mod TwoTuples
pub mod Deps
pub mod Theories
pub mod Address
