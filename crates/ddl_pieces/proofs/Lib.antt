pub mod Cutting
pub mod Fronts
pub mod Designed
pub mod Types
pub mod Elements
pub mod Texts
pub mod Comments
pub mod Statements
