-- The lemmas of nearest_lines.
mod WordLemmas
mod LineLemmas
