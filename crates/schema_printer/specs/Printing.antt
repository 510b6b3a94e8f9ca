-- The texts of sets, dependencies and schemas: for schema_printer, and for every text that names
-- attributes.
use Rattle.std.specs.Prelude.{ℕ, ◌+◌, ◌==◌, Bool, true, false, if◌then◌else◌, List, [], ◌∷◌, ◌++◌, map, codes, decimal, bytes_eq}
use Rattle.std.specs.List.{flat_map, list_any}
use Rattle.attr_sets.specs.Attributes.{Attributes}
use Rattle.schema_model.specs.declared.column_type.ColumnType.{ColumnType}
use Rattle.schema_model.specs.declared.column_type.ColumnType.TheVariants.{Text, Integer, Date, Timestamp, Decimal, Uuid, Other}
use Rattle.schema_model.specs.declared.naming.Naming.{Naming}
use Rattle.schema_model.specs.declared.naming.Naming.TheVariants.{Bare, Any}
use Rattle.schema_model.specs.Schemas.{Schema}
use Rattle.dep_model.specs.Dependencies.{Dependency, fd, mvd}
use Rattle.schema_model.specs.Schemas.{naming_of, types_of, nullable_of}
use Rattle.schema_printer.specs.Spelling.{printed_names_of}
use Rattle.schema_model.specs.Names.{quoted}

-- words, each after a blank
abbrev pub words_text : List (List ℕ) → List ℕ
words_text words = flat_map (λ word. 32 ∷ word) words

-- the names at the members of a set, in ascending order; the first name is that of attribute k
abbrev pub members_from : Attributes → ℕ → List (List ℕ) → List (List ℕ)
members_from x k [] = []
members_from x k (name ∷ names) =
    if x k then name ∷ members_from x (k + 1) names else members_from x (k + 1) names

-- words with one blank between, `()` for none
abbrev pub side_text : List (List ℕ) → List ℕ
side_text [] = codes "()"
side_text (word ∷ words) = word ++ words_text words

-- a set, by the names of the attributes
unfoldable pub set_text : List (List ℕ) → Attributes → List ℕ
set_text names x = side_text (members_from x 0 names)

-- a dependency: a side, an arrow, a side
unfoldable pub dependency_text : List (List ℕ) → Dependency → List ℕ
dependency_text names (fd x y) = set_text names x ++ codes " -> " ++ set_text names y
dependency_text names (mvd x y) = set_text names x ++ codes " ->> " ++ set_text names y

-- neighbouring attributes of one type
pub record Run : Type 0 where
  pub column : ColumnType
  pub names : List (List ℕ)

abbrev pub is_integer : ColumnType → Bool
is_integer Integer = true
is_integer column = false

-- whether two types of columns are one type
abbrev pub same_column : ColumnType → ColumnType → Bool
same_column Text Text = true
same_column Integer Integer = true
same_column Date Date = true
same_column Timestamp Timestamp = true
same_column (Decimal scale) (Decimal other) = scale == other
same_column Uuid Uuid = true
same_column (Other text) (Other other) = bytes_eq text other
same_column column other = false

-- an attribute in front of runs
abbrev pub in_front : ColumnType → List ℕ → List Run → List Run
in_front column name [] = record { column = column; names = name ∷ [] } ∷ []
in_front column name (run ∷ runs) =
    if same_column column run.column
    then record { column = column; names = name ∷ run.names } ∷ runs
    else record { column = column; names = name ∷ [] } ∷ run ∷ runs

-- the longest runs of neighbouring attributes of one type
abbrev pub runs_of : List ColumnType → List (List ℕ) → List Run
runs_of [] names = []
runs_of (column ∷ columns) [] = []
runs_of (column ∷ columns) (name ∷ names) = in_front column name (runs_of columns names)

-- the word, or the two words, that declare columns of a type
abbrev pub type_word : ColumnType → List ℕ
type_word Text = codes "text"
type_word Integer = codes "integer"
type_word Date = codes "date"
type_word Timestamp = codes "timestamp"
type_word (Decimal scale) = codes "decimal " ++ decimal scale
type_word Uuid = codes "uuid"
type_word (Other text) = codes "other " ++ quoted text

abbrev pub run_line : Run → List ℕ
run_line run = type_word run.column ++ words_text run.names

-- the lines that declare attributes with bare names: one where all columns are text columns, else a
-- version line and a line for each run
unfoldable pub declaring_lines : List ColumnType → List (List ℕ) → List (List ℕ)
declaring_lines columns names =
    if list_any is_integer columns
    then codes "version 2" ∷ map run_line (runs_of columns names)
    else (codes "attributes" ++ words_text names) ∷ []

-- the line of the attributes of which a value may be missing, where there are any
unfoldable pub nullable_lines : List (List ℕ) → List (List ℕ)
nullable_lines [] = []
nullable_lines (name ∷ names) = (codes "nullable " ++ side_text (name ∷ names)) ∷ []

-- the lines that declare the attributes of a schema, by the names as they are printed
unfoldable pub schema_lines : Naming → List ColumnType → List (List ℕ) → Attributes → List (List ℕ)
schema_lines Bare columns names nullable = declaring_lines columns names
schema_lines Any columns names nullable =
    codes "version 3" ∷ (map run_line (runs_of columns names)
    ++ nullable_lines (members_from nullable 0 names))

-- lines, each with a line feed at its end
abbrev pub lines_text : List (List ℕ) → List ℕ
lines_text lines = flat_map (λ line. line ++ 10 ∷ []) lines

-- the declaring lines of attributes with bare names, and dependencies over them
unfoldable pub declared_text : List ColumnType → List (List ℕ) → List Dependency → List ℕ
declared_text columns names deps =
    lines_text (declaring_lines columns names ++ map (dependency_text names) deps)

-- the declaring lines of a schema, and dependencies over its names
unfoldable pub schema_text : Schema → List Dependency → List ℕ
schema_text s deps =
    lines_text (schema_lines (naming_of s) (types_of s) (printed_names_of s) (nullable_of s)
    ++ map (dependency_text (printed_names_of s)) deps)
