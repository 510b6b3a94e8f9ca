-- The keys of a table as sets of its columns: for the columns that may be missing (`Missing`) and the text of the
-- table's schema (`Texts`).
use Rattle.std.specs.Prelude.{ℕ, Bool, true, false, ◌&&◌, ◌||◌, not, Option, Some, None, option_and_then, Result, Ok, Err, List, [], ◌∷◌, ◌++◌, position, if◌then◌else◌}
use Rattle.std.specs.List.{list_any}
use Rattle.attr_sets.specs.Attributes.{Attributes, below, difference, none, only, union}
use Rattle.attr_sets.specs.Sets.{is_disjoint, is_same, is_subset}
use Rattle.dep_model.specs.Dependencies.{Dependency, fd}
use Rattle.schema_model.specs.Names.{same_name}
use Rattle.sql_definitions.specs.declared.definition.KeyKind.{KeyKind}
use Rattle.sql_definitions.specs.declared.definition.KeyKind.TheVariants.{Primary, UniqueMissing}
use Rattle.sql_definitions.specs.declared.refusal.Reason.TheVariants as reason
use Rattle.sql_definitions.specs.declared.refusal.Refusal.{Refusal}
use Rattle.sql_definitions.specs.Facts.{Facts, StatedColumn, StatedKey, StatedPart, refused}

-- a key of a table: what states it, and its columns
pub record KeyColumns : Type 0 where
  pub kind : KeyKind
  pub columns : Attributes

-- PRIMARY KEY keeps values of its columns from missing
abbrev pub is_primary : KeyKind → Bool
is_primary Primary = true
is_primary other = false

-- with NULLS NOT DISTINCT missing values are compared
abbrev pub compares_missing : KeyKind → Bool
compares_missing UniqueMissing = true
compares_missing other = false

-- what follows, where there is no refusal
abbrev pub and_then : {A B : Type 0} → Result A Refusal → (A → Result B Refusal) → Result B Refusal
and_then (Err refusal) next = Err refusal
and_then (Ok value) next = next value

-- ---- the columns of a key
-- the column of a name, ASCII case aside
abbrev pub column_named : List StatedColumn → List ℕ → Option ℕ
column_named columns name = position (λ c. same_name c.name name) columns

-- the column that a part of a key names
abbrev pub column_of_part : List StatedColumn → StatedPart → Option ℕ
column_of_part columns part = option_and_then (column_named columns) part.name

-- one column more, where a part at a place names one
abbrev pub with_part : Attributes → ℕ → Option ℕ → Result Attributes Refusal
with_part x place None = refused reason.UnknownName place
with_part x place (Some k) = Ok (union x (only k))

-- some columns, and those that parts name; the first part that names none is refused
unfoldable pub columns_of_parts : List StatedColumn → Attributes → List StatedPart → Result Attributes Refusal
columns_of_parts columns x [] = Ok x
columns_of_parts columns x (part ∷ parts) =
    and_then (with_part x part.place (column_of_part columns part)) (λ y. columns_of_parts columns y parts)

-- ---- the keys
-- a key that is stated, with its columns
abbrev pub key_of : List StatedColumn → StatedKey → Result KeyColumns Refusal
key_of columns key =
    and_then (columns_of_parts columns none key.parts) (λ x. Ok (record { kind = key.kind; columns = x }))

-- some keys, and those that are stated
unfoldable pub keys_after : List StatedColumn → List KeyColumns → List StatedKey → Result (List KeyColumns) Refusal
keys_after columns before [] = Ok before
keys_after columns before (key ∷ keys) =
    and_then (key_of columns key) (λ k. keys_after columns (before ++ k ∷ []) keys)

-- the keys of a table, in the order in which they are stated
abbrev pub keys_of : Facts → Result (List KeyColumns) Refusal
keys_of f = keys_after f.columns [] f.keys

-- ---- the keys that say something
-- a key states a dependency: no column of it may be missing, or missing values are compared
abbrev pub is_dependency : Attributes → KeyColumns → Bool
is_dependency missing key = compares_missing key.kind || is_disjoint key.columns missing

-- another key says what a key says: it has the same columns, and states a dependency where that does
abbrev pub says_so : Attributes → KeyColumns → KeyColumns → Bool
says_so missing key other =
    is_same other.columns key.columns && (is_dependency missing other || not (is_dependency missing key))

-- a key of n columns has one that is not in it, and none of some keys says what it says
abbrev pub is_new : ℕ → Attributes → List KeyColumns → KeyColumns → Bool
is_new n missing keys key = not (is_subset (below n) key.columns) && not (list_any (says_so missing key) keys)

-- some keys, and those of others that are new, each once
unfoldable pub new_keys : ℕ → Attributes → List KeyColumns → List KeyColumns → List KeyColumns
new_keys n missing before [] = before
new_keys n missing before (key ∷ keys) =
    new_keys n missing (if is_new n missing before key then before ++ key ∷ [] else before) keys

-- a key determines all other columns
abbrev pub key_dependency : ℕ → KeyColumns → Dependency
key_dependency n key = fd key.columns (difference (below n) key.columns)
