-- The law that parts are read from what spells them: for the function of `laws.rt`. `Desk` does not cite it.
use Rattle.std.specs.Prelude.{◌≡◌, ◌≤◌, ◌<◌, ℕ, Bool, true, ◌&&◌, not, nat_lt, nat_eq, Some, List, [], ◌∷◌, length, codes, if◌then◌else◌}
use Rattle.std.specs.List.{join_by, list_all, list_any, starts_with}
use Rattle.schema_model.specs.Names.{quoted}
use Rattle.lexer.specs.Quotes.{is_name}
use Rattle.table_words.specs.declared.parts.TheConstants.{MOST_PARTS}
use Rattle.table_words.specs.Parts.{Part, is_dot, table_parts}

-- how a part is spelled: a quoted one between double quotes, each in it doubled
abbrev pub spelling : Part → List ℕ
spelling part = if part.quoted then quoted part.name else part.name

-- bytes that are a part without quotes: not none, the first no double quote, and no dot
abbrev pub is_bare : List ℕ → Bool
is_bare bytes = (nat_lt 0 (length bytes) && not (starts_with nat_eq bytes (34 ∷ []))) && not (list_any is_dot bytes)

-- what a part may name
abbrev pub is_part : Part → Bool
is_part part = if part.quoted then is_name part.name else is_bare part.name

-- one to `MOST_PARTS` parts are read from their spellings with a dot between two
abbrev pub SpelledParts : Type 0
SpelledParts =
    (parts : List Part) → 0 < length parts → length parts ≤ MOST_PARTS → list_all is_part parts ≡ true
    → table_parts (join_by spelling (codes ".") parts) ≡ Some parts
