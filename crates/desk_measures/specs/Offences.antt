-- The rows that are at odds, as CSV, by classes or row by row: for `offences` and `offences rows`.
use Rattle.std.specs.Prelude.{◌≡◌, ◌+◌, ◌==◌, ℕ, zero, suc, Bool, MatchOption, if◌then◌else◌, List, [], ◌∷◌, ◌++◌}
use Rattle.std.specs.Prelude.{codes, length, slice_get}
use Rattle.std.specs.Fmt.{decimal}
use Rattle.std.specs.List.{flat_map}
use Rattle.attr_sets.specs.Attributes.{Attributes, below, union}
use Rattle.csv_text.specs.Rows.{csv_row}
use Rattle.dep_model.specs.Dependencies.{Dependency, fd, mvd}
use Rattle.schema_model.specs.Schemas.{lines_of, names_of, theory_of, width_of}
use Rattle.dep_model.specs.Tuples.{Tuple, Relation, value_at}
use Rattle.schema_model.specs.Schemas.{Schema}
use Rattle.row_measures.specs.Answers.{AreBrokenParts, AreBrokenRows}
use Rattle.row_measures.specs.declared.breach.BrokenPart.{BrokenPart}
use Rattle.row_measures.specs.declared.breach.BrokenRow.{BrokenRow}
use Rattle.row_measures.specs.declared.breach.RowMark.{RowMark}
use Rattle.row_measures.specs.declared.breach.RowMark.TheVariants as mark
use Rattle.row_store.specs.Rows.{row_at}
use Rattle.desk_responses.specs.Lines.{line_number_text}
use Rattle.desk_responses.specs.ResponseValues.{Allowed, Says}
use Rattle.desk_measures.specs.Findings.{Finding, FindsBelow, FindsNothing, status_of}

-- ---- fields
-- whether a class or a row is one that stays; nothing is said where a group breaks a multivalued dependency
abbrev pub mark_text : RowMark → List ℕ
mark_text mark.Kept = codes "yes"
mark_text mark.Removed = codes "no"
mark_text mark.Unmarked = []

-- the values of a row at the first n attributes, with empty fields outside a set
unfoldable pub values_below : ℕ → Attributes → Tuple → Tuple
values_below zero shown t = []
values_below (suc k) shown t = values_below k shown t ++ (if shown k then value_at t k else []) ∷ []

-- of a class, or of a group that breaks a multivalued dependency: the line of the dependency, the group's
-- number, how many rows, the first of them, whether it stays, and values of that row
abbrev pub part_fields : Schema → Relation → ℕ → Attributes → BrokenPart → Tuple
part_fields schema rows k shown part =
    line_number_text (slice_get (lines_of schema) k) ∷ decimal part.group ∷ decimal part.rows
    ∷ decimal (part.first + 1) ∷ mark_text part.mark
    ∷ values_below (width_of schema) shown (row_at rows part.first)

-- of a row of a broken group: the line of the dependency, the group's number, the row's, whether it stays,
-- and its values
abbrev pub row_fields : Schema → Relation → ℕ → BrokenRow → Tuple
row_fields schema rows k broken =
    line_number_text (slice_get (lines_of schema) k) ∷ decimal broken.group ∷ decimal (broken.row + 1)
    ∷ mark_text broken.mark ∷ values_below (width_of schema) (below (width_of schema)) (row_at rows broken.row)

-- the header of the lines of classes
abbrev pub part_headings : Tuple
part_headings =
    codes "desk_line" ∷ codes "desk_group" ∷ codes "desk_rows" ∷ codes "desk_first" ∷ codes "desk_keep" ∷ []

-- the header of the lines of rows
abbrev pub row_headings : Tuple
row_headings = codes "desk_line" ∷ codes "desk_group" ∷ codes "desk_row" ∷ codes "desk_keep" ∷ []

-- ---- the lines of one dependency
-- the attributes whose values are shown of a class, or of a group
abbrev pub shown_of : Dependency → Attributes
shown_of (fd x y) = union x y
shown_of (mvd x y) = x

-- the classes of the broken groups of a dependency, or those groups
pub record ArePartLines (schema : Schema) (rows : Relation) (k : ℕ) (d : Dependency) (clean : Bool)
    (text : List ℕ) : Type 0 where
  pub parts : List BrokenPart
  pub are : AreBrokenParts (width_of schema) rows d parts
  pub none : clean ≡ (length parts == 0)
  pub lines : text ≡ flat_map (λ part. csv_row (part_fields schema rows k (shown_of d) part)) parts

-- the rows of the broken groups of a dependency
pub record AreRowLines (schema : Schema) (rows : Relation) (k : ℕ) (d : Dependency) (clean : Bool)
    (text : List ℕ) : Type 0 where
  pub broken : List BrokenRow
  pub are : AreBrokenRows (width_of schema) rows d broken
  pub none : clean ≡ (length broken == 0)
  pub lines : text ≡ flat_map (λ row. csv_row (row_fields schema rows k row)) broken

-- what is found of the dependency at a position
abbrev pub OfDependency : Schema → (ℕ → Dependency → Finding) → ℕ → Finding
OfDependency schema Finds k clean text =
    MatchOption (slice_get (theory_of schema) k) (FindsNothing clean text) (λ d. Finds k d clean text)

-- what is found of each dependency, in the order of the file
abbrev pub OfEachDependency : Schema → (ℕ → Dependency → Finding) → Finding
OfEachDependency schema Finds = FindsBelow (OfDependency schema Finds) (length (theory_of schema))

-- ---- answers
-- below a header what is found of each dependency; no where there is any of it
abbrev pub ListsBelow : Schema → Tuple → (ℕ → Dependency → Finding) → Allowed
ListsBelow schema headings Finds response =
    (clean : Bool) × (text : List ℕ) × OfEachDependency schema Finds clean text
    × Says (status_of clean) (csv_row (headings ++ names_of schema) ++ text) response

abbrev pub ListsOffences : Schema → Relation → Allowed
ListsOffences schema rows = ListsBelow schema part_headings (ArePartLines schema rows)

abbrev pub ListsOffencesByRow : Schema → Relation → Allowed
ListsOffencesByRow schema rows = ListsBelow schema row_headings (AreRowLines schema rows)
