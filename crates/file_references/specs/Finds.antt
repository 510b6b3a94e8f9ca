-- How references are found, one target after the other: for `all_references` and the functions below it.
-- `Desk` does not cite it.
use Rattle.std.specs.Prelude.{◌≡◌, ◌+◌, ◌<◌, ◌≤◌, ◌⊎◌, ℕ, true, Some, List, [], ◌∷◌, All, length, Contains}
use Rattle.std.specs.List.{AllZip}
use Rattle.attr_sets.specs.Attributes.{Attributes, count_below}
use Rattle.attr_sets.specs.Sets.{attributes}
use Rattle.attr_sets.specs.declared.set.AttrSet.{AttrSet}
use Rattle.attr_sets.specs.declared.set.TheConstants.{MOST_ATTRIBUTES}
use Rattle.dep_model.specs.Projections.{members_below}
use Rattle.dep_model.specs.Tuples.{Tuple, Relation, value_at}
use Rattle.file_references.specs.Columns.{HasValue, HasWholeRow, file_at, misses_none, misses_nothing, name_at}
use Rattle.file_references.specs.Columns.{values_on}
use Rattle.file_references.specs.Keys.{AreLooked, AreValues, IsLooked, KnowsKeys}
use Rattle.file_references.specs.References.{IsReference, IsTarget, Reference}
use Rattle.file_references.specs.declared.reference.FoundReference.{FoundReference}
use Rattle.file_references.specs.declared.targets.Target.{Target}
use Rattle.headed_rows.specs.Headings.{HeadedRows}
use Rattle.schema_model.specs.Schemas.{attribute_named}
use Rattle.table_join.specs.Lent.{tuples_of}

-- a reference of the code
abbrev pub reference_of : FoundReference → Reference
reference_of f = record { file = f.file; columns = f.columns.items; target = f.target; key = f.key.items }

-- some references more: those that have P, and what is more is a reference
pub record Adds (files : List HeadedRows) (P : Reference → Type 0) (old new : List Reference) : Type 0 where
  pub kept : (ref : Reference) → Contains old ref → Contains new ref
  pub only : (ref : Reference) → Contains new ref → Contains old ref ⊎ IsReference files ref
  pub all : (ref : Reference) → IsReference files ref → P ref → Contains new ref

-- each of these is a reference
abbrev pub AreReferences : List HeadedRows → List Reference → Type 0
AreReferences files refs = (ref : Reference) → Contains refs ref → IsReference files ref

-- a reference follows from two of these: its source refers to columns that refer to its target (Casanova, Fagin and
-- Papadimitriou 1984)
abbrev pub Follows : List Reference → Reference → Type 0
Follows refs ref =
    (file : ℕ) × ((columns : List ℕ)
    × Contains refs (record { file = ref.file; columns = ref.columns; target = file; key = columns })
    × Contains refs (record { file = file; columns = columns; target = ref.target; key = ref.key }))

-- the target of the code is one of the files, with its values
pub record IsTargetOf (files : List HeadedRows) (target : Target) : Type 0 where
  pub within : target.file < length files
  pub is_target : IsTarget (length (file_at files target.file).names) (file_at files target.file).rows
      target.columns.items
  pub values : AreValues (file_at files target.file).rows target.columns.items (tuples_of target.values.keys)

-- it is referred to
abbrev pub RefersTo : Target → Reference → Type 0
RefersTo target ref = (ref.target ≡ target.file) × (ref.key ≡ target.columns.items)

-- and from this file
abbrev pub RefersFrom : Target → ℕ → Reference → Type 0
RefersFrom target file ref = RefersTo target ref × (ref.file ≡ file)

-- one of the first n files in turn: those before a file from the last on, and then it and those after it
abbrev pub IsInTurn : ℕ → ℕ → ℕ → Type 0
IsInTurn target n file = ((file < target) × (target < file + n + 1)) ⊎ ((target ≤ file) × (file < n))

-- from one of these, and from one of the first n columns of this file
abbrev pub RefersFromFirst : Target → ℕ → Reference → Type 0
RefersFromFirst target n ref = RefersTo target ref × IsInTurn target.file n ref.file

abbrev pub RefersFromColumns : Target → ℕ → ℕ → Reference → Type 0
RefersFromColumns target file n ref =
    RefersFrom target file ref × ((k : ℕ) × (k < n) × (ref.columns ≡ k ∷ []))

-- this file is referred to, and one of the first n files
abbrev pub IsTo : ℕ → Reference → Type 0
IsTo file ref = ref.target ≡ file

abbrev pub IsToFirst : ℕ → Reference → Type 0
IsToFirst n ref = ref.target < n

-- this reference
abbrev pub IsThis : Reference → Reference → Type 0
IsThis this ref = ref ≡ this

-- the columns of the target are columns of a file
pub record FitsFile (files : List HeadedRows) (target : Target) : Type 0 where
  pub within : target.file < length files
  pub columns : All (λ k. k < length (file_at files target.file).names) target.columns.items

-- one of these sets of n columns of a file is referred to
abbrev pub RefersToOne : ℕ → ℕ → List AttrSet → Reference → Type 0
RefersToOne n file sets ref =
    (ref.target ≡ file) × ((s : AttrSet) × Contains sets s × (ref.key ≡ members_below n (attributes s)))

-- each row that misses none of its values at columns has them among these, and some row misses none
pub record AllAre (r : Relation) (columns : List ℕ) (values : Relation) : Type 0 where
  pub within : (t : Tuple) → Contains r t → misses_none columns t ≡ true → Contains values (values_on columns t)
  pub some_row : HasWholeRow r columns

-- each row has its value at a column among these, and each row that misses nothing
abbrev pub HasColumn : Relation → ℕ → List (List ℕ) → Type 0
HasColumn r column values = (t : Tuple) → Contains r t → Contains values (value_at t column)

abbrev pub AreAmong : Relation → ℕ → List (List ℕ) → Type 0
AreAmong r column values = (t : Tuple) → Contains r t → misses_nothing t ≡ true → Contains values (value_at t column)

-- and so they have them among the values of a column of another relation: else the one is never paired with the other
abbrev pub MayRefer : Relation → ℕ → Relation → ℕ → Type 0
MayRefer r column s k = (t : Tuple) → Contains r t → misses_nothing t ≡ true → HasValue s k (value_at t column)

-- columns of these names are named as those of others, ASCII case aside
abbrev pub AreNamedAs : List (List ℕ) → List (List ℕ) → List ℕ → List ℕ → Type 0
AreNamedAs names others columns key =
    AllZip (λ column k. attribute_named names (name_at others k) ≡ Some column) columns key

-- the keys of a file are known as far as they were looked for, and the references to them were added
pub record KnowsTargets (files : List HeadedRows) (target : ℕ) (shared : Attributes) (size : ℕ) (sets : List AttrSet)
    (first : List Reference) (keys : List AttrSet) (found : List Reference) : Type 0 where
  pub known : KnowsKeys (length (file_at files target).names) (file_at files target).rows shared size sets keys
  pub added : Adds files (RefersToOne (length (file_at files target).names) target keys) first found

-- exactly the sets of so many columns of a file are looked at
abbrev pub AreLookedIn : List HeadedRows → ℕ → Attributes → ℕ → List AttrSet → Type 0
AreLookedIn files target shared size sets = AreLooked (length (file_at files target).names) shared size sets

-- and one of them
abbrev pub IsLookedIn : List HeadedRows → ℕ → Attributes → ℕ → AttrSet → Type 0
IsLookedIn files target shared size s =
    IsLooked (length (file_at files target).names) shared size (attributes s)
    × (count_below (attributes s) MOST_ATTRIBUTES ≡ size)

-- columns of a file and a target, as a reference
abbrev pub refers_from : ℕ → List ℕ → Target → Reference
refers_from file columns target =
    record { file = file; columns = columns; target = target.file; key = target.columns.items }
