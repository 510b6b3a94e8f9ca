-- When the header of a file names its columns, or why it does not, and how a schema text names them:
-- for `read_headed`, by `Headings`, and for what `discover` prints.
use Rattle.std.specs.Prelude.{◌≡◌, ◌≢◌, ◌+◌, ◌<◌, ◌≤◌, ◌⊎◌, ℕ, Bool, ◌&&◌, not, if◌then◌else◌, List, [], length, take}
use Rattle.std.specs.Prelude.{slice_index_or, None}
use Rattle.std.specs.List.{list_all}
use Rattle.schema_model.specs.Names.{IsName, is_bare_name}
use Rattle.schema_model.specs.Schemas.{attribute_named}
use Rattle.schema_model.specs.declared.naming.Naming.{Naming}
use Rattle.schema_model.specs.declared.naming.Naming.TheVariants.{Bare, Any}
use Rattle.schema_grammar.specs.Words.{is_reserved}
use Rattle.schema_grammar.specs.declared.format.Format.TheVariants as format
use Rattle.row_store.specs.declared.limits.TheConstants.{WIDEST_HEADED}
use Rattle.headed_rows.specs.declared.refusal.HeaderRefusal.{HeaderRefusal}
use Rattle.headed_rows.specs.declared.refusal.HeaderRefusal.TheVariants as refusal

-- a field names a column: it is a name, and no column before it has this name, ASCII case aside
abbrev pub NamesColumn : List (List ℕ) → List ℕ → Type 0
NamesColumn before field = IsName field × (attribute_named before field ≡ None)

-- why a field does not name the column of this number
abbrev pub RefusesColumn : List (List ℕ) → List ℕ → ℕ → HeaderRefusal → Type 0
RefusesColumn before field column (refusal.BadColumn c) = (c ≡ column) × (IsName field → ⊥)
RefusesColumn before field column (refusal.DoubleColumn c) =
    (c ≡ column) × IsName field × (attribute_named before field ≢ None)
RefusesColumn before field column refusal.NoHeader = ⊥
RefusesColumn before field column refusal.TooManyColumns = ⊥
RefusesColumn before field column (refusal.UnevenRow r) = ⊥
RefusesColumn before field column refusal.TooManyRows = ⊥
RefusesColumn before field column refusal.OpenHeader = ⊥
RefusesColumn before field column (refusal.OpenRow r) = ⊥

-- the field at a position
abbrev pub field_at : List (List ℕ) → ℕ → List ℕ
field_at header i = slice_index_or header i []

-- each of the first n fields names its column
abbrev pub NameColumns : List (List ℕ) → ℕ → Type 0
NameColumns header n = (i : ℕ) → i < n → NamesColumn (take i header) (field_at header i)

-- a header: different names of at most so many columns
pub record IsHeaderWithin (widest : ℕ) (header : List (List ℕ)) : Type 0 where
  pub within_limit : length header ≤ widest
  pub named : NameColumns header (length header)

-- a header of a file whose dependencies are looked for
abbrev pub IsColumnHeader : List (List ℕ) → Type 0
IsColumnHeader header = IsHeaderWithin WIDEST_HEADED header

-- the first field that does not name its column is refused so
pub record RefusesField (widest : ℕ) (header : List (List ℕ)) (e : HeaderRefusal) : Type 0 where
  pub within_limit : length header ≤ widest
  pub at : ℕ
  pub within : at < length header
  pub before : NameColumns header at
  pub refused : RefusesColumn (take at header) (field_at header at) (at + 1) e

-- why a record is no header: it is too wide, or a field of it is refused
abbrev pub RefusesColumnHeader : ℕ → List (List ℕ) → HeaderRefusal → Type 0
RefusesColumnHeader widest header e =
    ((e ≡ refusal.TooManyColumns) × (widest < length header)) ⊎ RefusesField widest header e

-- ---- schema texts of these columns
-- a name stands as it is in a text without a version line: it is a bare name, and no reserved word
abbrev pub is_plain_name : List ℕ → Bool
is_plain_name name = is_bare_name name && not (is_reserved format.Plain name)

-- the names are bare where each of them is such a name
abbrev pub naming_under : List (List ℕ) → Naming
naming_under names = if list_all is_plain_name names then Bare else Any
