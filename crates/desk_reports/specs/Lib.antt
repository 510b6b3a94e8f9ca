-- The definitions of desk_reports, in reading order: what may stand at a place of a page, and the sections of a
-- page, up to the whole.
pub mod Pieces
pub mod Attributes
pub mod Rules
pub mod Forms
pub mod Tables
pub mod Reports
pub mod Answers
