-- The lemmas of sql_lexemes.
mod Scans
