-- How far rows are from legal: for `measure`. The rows may have values that are not of their column's type.
use Rattle.std.specs.Prelude.{◌≡◌, ◌↔◌, ◌+◌, ◌<◌, ◌==◌, ◌&&◌, ℕ, Bool, true, false, not, if◌then◌else◌, List, []}
use Rattle.std.specs.Prelude.{◌++◌, codes, length, nat_lt, slice_get, slice_index_or}
use Rattle.std.specs.Fmt.{decimal}
use Rattle.std.specs.List.{position_or_len}
use Rattle.attr_sets.specs.Attributes.{Attributes, count_below, difference, only}
use Rattle.attr_sets.specs.declared.set.TheConstants.{MOST_ATTRIBUTES}
use Rattle.column_values.specs.Values.{FitsColumn}
use Rattle.csv_rows.specs.RefusalTexts.{type_of}
use Rattle.dep_model.specs.Dependencies.{Dependency, fd, mvd}
use Rattle.schema_model.specs.Schemas.{lines_of, nullable_of, width_of}
use Rattle.dep_model.specs.Tuples.{Relation, value_at}
use Rattle.schema_model.specs.declared.column_type.ColumnType.{ColumnType}
use Rattle.schema_model.specs.Schemas.{Schema}
use Rattle.legality.specs.Parts.{flag_at}
use Rattle.row_measures.specs.Answers.{IsMeasure}
use Rattle.row_measures.specs.declared.breach.Measure.{Measure}
use Rattle.row_store.specs.Rows.{row_at}
use Rattle.schema_printer.specs.Printing.{dependency_text, type_word}
use Rattle.schema_printer.specs.Spelling.{printed_names_of}
use Rattle.desk_responses.specs.Lines.{line_number_text}
use Rattle.desk_responses.specs.ResponseValues.{Allowed, Says}
use Rattle.desk_texts.specs.Texts.{line}
use Rattle.desk_measures.specs.Findings.{Finding, FindsBelow, FindsBoth, FindsNothing, status_of}
use Rattle.desk_measures.specs.Offences.{OfEachDependency}

-- ---- values that are not of their column's type
-- the value of a row at an attribute does not fit its column
abbrev pub IsMistyped : Schema → Relation → ℕ → ℕ → Type 0
IsMistyped schema rows a i =
    FitsColumn (type_of schema a) (nullable_of schema a) (value_at (row_at rows i) a) → ⊥

-- a flag for each row, set where its value is so
pub record AreMistyped (schema : Schema) (rows : Relation) (a : ℕ) (flags : List Bool) : Type 0 where
  pub one_each : length flags ≡ length rows
  pub told : (i : ℕ) → i < length rows → (flag_at flags i ≡ true) ↔ IsMistyped schema rows a i

-- how many flags are set
abbrev pub flags_set : List Bool → ℕ
flags_set flags = count_below (flag_at flags) (length flags)

-- so many values are so, of a column of this type
unfoldable pub mistyped_words : ColumnType → ℕ → List ℕ
mistyped_words column count =
    if count == 1 then codes " value is no " ++ type_word column ++ codes ", in row "
    else codes " values are no " ++ type_word column ++ codes ", the first in row "

-- how many values are so, and the first row that has one
abbrev pub mistyped_text : Schema → ℕ → ℕ → ℕ → List ℕ
mistyped_text schema a count row =
    line (codes "column " ++ slice_index_or (printed_names_of schema) a [] ++ codes ": " ++ decimal count
    ++ mistyped_words (type_of schema a) count ++ decimal row)

-- a line where a column has such values
pub record IsColumnFound (schema : Schema) (rows : Relation) (a : ℕ) (clean : Bool) (text : List ℕ)
    : Type 0 where
  pub flags : List Bool
  pub are : AreMistyped schema rows a flags
  pub none : clean ≡ (flags_set flags == 0)
  pub says : text ≡ (if flags_set flags == 0 then []
      else mistyped_text schema a (flags_set flags) (position_or_len (λ flag. flag) flags + 1))

-- ---- numbers
-- groups and rows, each with a word
abbrev pub counted_text : Measure → List ℕ → List ℕ → List ℕ
counted_text m of_groups of_rows = decimal m.groups ++ of_groups ++ decimal m.rows ++ of_rows

-- broken groups, and the rows in them
unfoldable pub groups_text : Measure → List ℕ
groups_text m =
    if m.groups == 1 then counted_text m (codes " group, ") (codes " rows in it, ")
    else counted_text m (codes " groups, ") (codes " rows in them, ")

-- of a functional dependency
abbrev pub change_text : Measure → List ℕ
change_text m = groups_text m ++ decimal m.amount ++ codes " must change"

-- so many are missing
unfoldable pub missing_words : ℕ → List ℕ
missing_words amount = if amount == 1 then codes " is missing" else codes " are missing"

-- of a multivalued one
abbrev pub lack_text : Measure → List ℕ
lack_text m = groups_text m ++ decimal m.amount ++ missing_words m.amount

unfoldable pub breach_text : Dependency → Measure → List ℕ
breach_text (fd x y) m = change_text m
breach_text (mvd x y) m = lack_text m

unfoldable pub verdict_text : Dependency → Measure → List ℕ
verdict_text d m = if m.groups == 0 then codes "holds" else codes "broken: " ++ breach_text d m

-- the line of a dependency
abbrev pub measure_text : Schema → ℕ → Dependency → Measure → List ℕ
measure_text schema k d m =
    line (codes "line " ++ line_number_text (slice_get (lines_of schema) k) ++ codes ": "
    ++ dependency_text (printed_names_of schema) d ++ codes " " ++ verdict_text d m)

-- the line of an attribute below that of its dependency
abbrev pub attribute_text : Schema → ℕ → Measure → List ℕ
attribute_text schema a m =
    line (codes "  " ++ slice_index_or (printed_names_of schema) a [] ++ codes ": " ++ change_text m)

-- ---- what is found
-- the left side does not determine this attribute
pub record IsAttributeMeasured (schema : Schema) (rows : Relation) (x : Attributes) (a : ℕ)
    (clean : Bool) (text : List ℕ) : Type 0 where
  pub measure : Measure
  pub is : IsMeasure (width_of schema) rows (fd x (only a)) measure
  pub none : clean ≡ (measure.groups == 0)
  pub says : text ≡ (if measure.groups == 0 then [] else attribute_text schema a measure)

-- something is found, or nothing, by a test
abbrev pub FindsWhere : Bool → Finding → Finding
FindsWhere true Finds = Finds
FindsWhere false Finds = FindsNothing

-- a line for each attribute of a set that the left side does not determine
abbrev pub AreAttributes : Schema → Relation → Attributes → Attributes → Finding
AreAttributes schema rows x own =
    FindsBelow (λ a. FindsWhere (own a) (IsAttributeMeasured schema rows x a)) (width_of schema)

-- of a functional dependency that is broken, and has more than one attribute on its right side that is not on its
-- left, a line for each of these that the left side does not determine
abbrev pub AreDetails : Schema → Relation → Dependency → Bool → Finding
AreDetails schema rows (fd x y) broken =
    FindsWhere (broken && nat_lt 1 (count_below (difference y x) MOST_ATTRIBUTES))
    (AreAttributes schema rows x (difference y x))
AreDetails schema rows (mvd x y) broken = FindsNothing

-- the line of a dependency, and those below it
pub record IsMeasured (schema : Schema) (rows : Relation) (k : ℕ) (d : Dependency) (clean : Bool)
    (text : List ℕ) : Type 0 where
  pub measure : Measure
  pub is : IsMeasure (width_of schema) rows d measure
  pub none : clean ≡ (measure.groups == 0)
  pub all_clean : Bool
  pub details : List ℕ
  pub are : AreDetails schema rows d (not (measure.groups == 0)) all_clean details
  pub says : text ≡ measure_text schema k d measure ++ details

-- ---- the answer
-- a line for each column with values that are not of its type, and the lines of each dependency; yes where
-- there are no such values and all dependencies hold
abbrev pub MeasuresRows : Schema → Relation → Allowed
MeasuresRows schema rows response =
    (clean : Bool) × (text : List ℕ)
    × FindsBoth (FindsBelow (IsColumnFound schema rows) (width_of schema))
    (OfEachDependency schema (IsMeasured schema rows)) clean text
    × Says (status_of clean) text response
