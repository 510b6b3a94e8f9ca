-- Inclusion dependencies (Casanova, Fagin and Papadimitriou 1984) of columns of a file on a minimal key
-- of a file: for `all_references`, and for the command that finds them (`desk_references/Findings`).
use Rattle.std.specs.Prelude.{◌≡◌, ◌<◌, ◌≤◌, ◌⊎◌, ℕ, true, List, [], ◌∷◌, length, Some, All, AllPairs, Contains}
use Rattle.std.specs.List.{AllZip}
use Rattle.attr_sets.specs.Attributes.{Attributes}
use Rattle.dep_model.specs.Projections.{members_below}
use Rattle.dep_model.specs.Tuples.{Tuple, Relation}
use Rattle.fd_search.specs.Keys.{IsRowKey}
use Rattle.headed_rows.specs.Headings.{HeadedRows}
use Rattle.schema_model.specs.Schemas.{attribute_named}
use Rattle.file_references.specs.declared.reference.TheConstants.{MOST_KEY_COLUMNS}
use Rattle.file_references.specs.Columns.{HasMatch, HasWholeRow, file_at, misses_none, name_at, values_on}

-- R[X] is within S[K]: each row of R that misses no value of X has them as the values of K in a row of S
abbrev pub Includes : Relation → List ℕ → Relation → List ℕ → Type 0
Includes r x s k = (t : Tuple) → Contains r t → misses_none x t ≡ true → HasMatch s k (values_on x t)

-- two rows differ
abbrev pub HasTwoRows : Relation → Type 0
HasTwoRows r = (t : Tuple) × (u : Tuple) × Contains r t × Contains r u × (t ≡ u → ⊥)

-- of rows with n columns, of which two differ, a minimal key of few columns, ascending, without a
-- missing value
pub record IsTarget (n : ℕ) (r : Relation) (key : List ℕ) : Type 0 where
  pub set : Attributes
  pub columns : key ≡ members_below n set
  pub minimal : IsRowKey n r set
  pub few : length key ≤ MOST_KEY_COLUMNS
  pub whole : (t : Tuple) → Contains r t → misses_none key t ≡ true
  pub differ : HasTwoRows r

-- columns of one of several files, and as many of one of them, to which they refer
pub record Reference : Type 0 where
  pub file : ℕ
  pub columns : List ℕ
  pub target : ℕ
  pub key : List ℕ

-- the source is a column of a file, and not the target itself
pub record IsOneColumn (files : List HeadedRows) (ref : Reference) : Type 0 where
  pub column : ℕ
  pub key_column : ℕ
  pub source : ref.columns ≡ column ∷ []
  pub target : ref.key ≡ key_column ∷ []
  pub within : column < length (file_at files ref.file).names
  pub other : ref.file ≡ ref.target → column ≡ key_column → ⊥

-- the source has the columns of another file that are named as those of the target, ASCII case aside
pub record AreNamesakes (files : List HeadedRows) (ref : Reference) : Type 0 where
  pub several : 1 < length ref.key
  pub other : ref.file ≡ ref.target → ⊥
  pub named : AllZip (λ column k. attribute_named (file_at files ref.file).names
      (name_at (file_at files ref.target).names k) ≡ Some column) ref.columns ref.key

-- a target of one of the files, and a source for it
pub record IsCandidate (files : List HeadedRows) (ref : Reference) : Type 0 where
  pub file : ref.file < length files
  pub target_file : ref.target < length files
  pub target : IsTarget (length (file_at files ref.target).names) (file_at files ref.target).rows ref.key
  pub source : IsOneColumn files ref ⊎ AreNamesakes files ref

-- the source refers to the target: it is within it, and some row misses none of its values
pub record IsReference (files : List HeadedRows) (ref : Reference) : Type 0 where
  pub candidate : IsCandidate files ref
  pub within : Includes (file_at files ref.file).rows ref.columns (file_at files ref.target).rows ref.key
  pub some_row : HasWholeRow (file_at files ref.file).rows ref.columns

-- a list of numbers comes before another: it ends, or has the lesser number, where they differ first
abbrev pub IsListBefore : List ℕ → List ℕ → Type 0
IsListBefore xs [] = ⊥
IsListBefore [] (y ∷ ys) = Unit {0}
IsListBefore (x ∷ xs) (y ∷ ys) = (x < y) ⊎ ((x ≡ y) × IsListBefore xs ys)

-- columns of a file come before others: by the file, and then as lists of numbers
abbrev pub AreColumnsBefore : ℕ → List ℕ → ℕ → List ℕ → Type 0
AreColumnsBefore file columns other others =
    (file < other) ⊎ ((file ≡ other) × IsListBefore columns others)

-- by their sources, and then by their targets
abbrev pub Precedes : Reference → Reference → Type 0
Precedes one other =
    AreColumnsBefore one.file one.columns other.file other.columns
    ⊎ ((one.file ≡ other.file) × (one.columns ≡ other.columns)
    × AreColumnsBefore one.target one.key other.target other.key)

-- exactly the references between files, in this order
pub record AreAllReferences (files : List HeadedRows) (refs : List Reference) : Type 0 where
  pub each : All (IsReference files) refs
  pub all : (ref : Reference) → IsReference files ref → Contains refs ref
  pub ascending : AllPairs Precedes refs
