-- The definitions of plan_grammar, in reading order: refusals of plan texts, the tokens of
-- its lines, what it means, its first diagnostic, and its reading.
pub mod Refusals
pub mod LineTokens
pub mod Meanings
pub mod Diagnostics
pub mod Reading
pub mod RefusalTexts
