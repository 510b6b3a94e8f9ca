pub mod AcceptedLaws
pub mod StopLemmas
mod FileLemmas
pub mod CompleteLaws
pub mod TableLaws
mod FormLaws
mod OneText
mod OneFile
mod OneFiles
mod ImportLaws
pub mod FileLaws
pub mod QuestionLaws
mod ReasonLaws
mod MeasureLaws
mod FolderLaws
pub mod ScriptLaws
mod PageLaws
pub mod BegunLaws
mod OneInput
mod OnePage
mod FindingLaws
mod OneMeasure
mod OneReferences
mod ReferenceLaws
mod OneTask
mod DerivationLaws
mod AcceptedDerivations
mod ConfirmedCovers
mod NumberedNames
mod ImportedLaws
mod PlainFronts
mod OneWords
mod WayBackLaws
