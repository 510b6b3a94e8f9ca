pub mod NumeralLemmas
pub mod TypedLemmas
pub mod RelationLemmas
pub mod HeldNumerals
pub mod ShownLemmas
