pub mod PartFiles
pub mod MigratedFiles
mod StatedReferences
mod QuotedTexts
mod CellTexts
