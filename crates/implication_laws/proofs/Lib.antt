pub mod OneKey
pub mod OneCover
mod OneBasis
mod OneList
mod SameNamesLemmas
pub mod GoalLemmas
pub mod ImplyingLaws
mod AlikeLaws
mod CoverLaws
mod PartedLists
mod MinimalLaws
mod CanonicalLaws
mod ConfirmedLaws
mod ExhibitLaws
mod FoundLaws
mod NearTexts
mod WrittenSchemas
pub mod WrittenCovers
mod ProjectLaws
pub mod StepLaws
pub mod OneAnswer
pub mod OneDerivation
pub mod OneStepsAnswer
pub mod OneProjection
pub mod OneReasons
mod EveryKeyLaws
pub mod OneDecision
pub mod ExplainedGoals
pub mod OnePlanAnswer
