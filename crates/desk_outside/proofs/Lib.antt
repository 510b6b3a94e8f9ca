pub mod ListFacts
pub mod HeldFacts
pub mod FolderFacts
pub mod SeriesFacts
pub mod PlannedFacts
pub mod LoadFacts
pub mod FreeFacts
