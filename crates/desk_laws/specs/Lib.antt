-- The definitions of desk_laws: when nothing fails, when a plan is found, what is accepted of what was printed, when
-- words have one answer, and what is imported of what was printed.
pub mod Completeness
pub mod AcceptedTexts
pub mod OneReading
pub mod Imported
pub mod OneAnswers
pub mod ImportedAgain
pub mod OneMeasures
pub mod OneReferences
pub mod LastBegun
pub mod AnsweredCalls
pub mod AnsweredDerivations
pub mod AnsweredFolders
pub mod AnsweredMeasures
pub mod AnsweredPages
pub mod AnsweredQuestions
pub mod AnsweredReasons
pub mod AnsweredReferences
pub mod AnsweredScripts
pub mod AnsweredTables
pub mod WayBack
