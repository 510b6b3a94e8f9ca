pub mod MigrationLemmas
pub mod OverwritingLemmas
pub mod OwnFolderLemmas
pub mod OffenceLemmas
pub mod TidyLemmas
pub mod DesigningLemmas
pub mod OneDesignLemmas
pub mod RejoiningLemmas
