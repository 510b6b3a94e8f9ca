-- The lemmas of table_words.
mod FrontLemmas
pub mod SpellingLemmas
