-- The name of a user's table: for `sql check` and `sql migrate` (`desk_scripts/Scripts`).
use Rattle.std.specs.Prelude.{ℕ, Bool, false, ◌&&◌, ◌||◌, ◌==◌, not, nat_lt, nat_le, Option, Some, None, unwrap_or}
use Rattle.std.specs.Prelude.{List, [], ◌∷◌, length, codes, slice_index}
use Rattle.std.specs.Char.{is_ascii_alphabetic}
use Rattle.std.specs.List.{find, join_by, list_all}
use Rattle.schema_model.specs.Names.{is_name_byte, quoted}
use Rattle.table_names.specs.TableNames.{GivenNames, is_given, is_taken}
use Rattle.table_words.specs.Parts.{Part, table_parts}
use Rattle.sql_scripts.specs.declared.naming.TheConstants.{MOST_PART_BYTES}

-- a letter or `_`, followed by letters, digits and `_`, at most `MOST_PART_BYTES` bytes
abbrev pub is_bare_part : List ℕ → Bool
is_bare_part bytes =
    nat_lt 0 (length bytes)
    && (is_ascii_alphabetic (slice_index bytes 0) || (slice_index bytes 0 == 95))
    && list_all is_name_byte bytes && nat_le (length bytes) MOST_PART_BYTES

-- a part that a script may hold: any name between double quotes, or such bytes without them
abbrev pub is_part : Part → Bool
is_part part = part.quoted || is_bare_part part.name

-- the name of the last part
abbrev pub last_of : List Part → List ℕ
last_of [] = []
last_of (part ∷ []) = part.name
last_of (part ∷ other ∷ parts) = last_of (other ∷ parts)

-- parts that a script may hold, of which the last is no name that a script gives
abbrev pub are_parts : List Part → Bool
are_parts parts = list_all is_part parts && not (is_taken (last_of parts))

-- whether it is said of parts, where there are any
abbrev pub said_of : (List Part → Bool) → Option (List Part) → Bool
said_of test None = false
said_of test (Some parts) = test parts

-- a word names a table
unfoldable pub is_table_name : List ℕ → Bool
is_table_name bytes = said_of are_parts (table_parts bytes)

-- the name of the last part of a word
abbrev pub last_name : List ℕ → List ℕ
last_name bytes = last_of (unwrap_or (table_parts bytes) [])

-- the first of these names that is the last part's, the case of letters aside
abbrev pub met_name : GivenNames → List ℕ → Option (List ℕ)
met_name names bytes = unwrap_or (find (is_given (last_name bytes)) names) None

-- names of parts between double quotes, with a dot between two
abbrev pub dotted_name : List Part → List ℕ
dotted_name parts = join_by (λ part. quoted part.name) (codes ".") parts

-- a table, by its name
unfoldable pub quoted_table : List ℕ → List ℕ
quoted_table bytes = dotted_name (unwrap_or (table_parts bytes) [])
