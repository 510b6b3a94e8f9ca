mod PassingLaws
pub mod FormPlans
pub mod PlanLengths
mod DesignedLaws
pub mod RejoinedLaws
pub mod LookedUpLaws
pub mod OwnLookUps
pub mod UniqueLaws
pub mod FormTables
pub mod NameLaws
pub mod OrderedNames
pub mod OneDesign
mod DesignTexts
mod LookUpTexts
mod ScriptTexts
pub mod MissingAnswers
pub mod SplitAnswers
pub mod DesignAnswers
pub mod RowAnswers
pub mod JoinAnswers
pub mod PlacedAnswers
pub mod FolderAnswers
pub mod SampleAnswers
pub mod ReasonAnswers
pub mod FormAnswers
mod OneGrouping
mod OrderAlike
pub mod FewestAnswers
mod FewestPlans
mod TidyAnswers
