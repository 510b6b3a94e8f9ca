-- What rows a CSV text means, or its first refusal: for `read_rows` and `read_part`, and for the
-- commands that read rows (`desk_inputs/Rows`, `desk_inputs/Parts`).
use Rattle.std.specs.Prelude.{◌≡◌, ◌≢◌, ◌+◌, ◌<◌, ◌≤◌, ℕ, Bool, true, false, Option, List, [], ◌∷◌, length, map, nat_eq, slice_index_or, slice_get, Some, Result, Ok, Err}
use Rattle.std.specs.List.{position_or_len}
use Rattle.attr_sets.specs.Sets.{attributes}
use Rattle.attr_sets.specs.declared.set.AttrSet.{AttrSet}
use Rattle.dep_model.specs.Tuples.{Tuple, Relation}
use Rattle.dep_model.specs.Projections.{members_below}
use Rattle.schema_model.specs.Schemas.{Schema}
use Rattle.schema_model.specs.declared.column_type.ColumnType.{ColumnType}
use Rattle.schema_model.specs.Schemas.{names_of, width_of, types_of, nullable_of}
use Rattle.column_values.specs.Values.{FitsColumn}
use Rattle.csv_rows.specs.declared.refusal.RowRefusal.{RowRefusal}
use Rattle.csv_rows.specs.declared.refusal.RowRefusal.TheVariants as refusal
use Rattle.csv_rows.specs.declared.reading.TheConstants.{MOST_ROWS}
use Rattle.std.specs.Borrow.{Bor}
use Rattle.csv.specs.declared.reader.Reader.{Reader}
use Rattle.csv_rows.specs.declared.header.Header.{Header}
use Rattle.csv_rows.specs.Records.{records_of, HasLeft}
use Rattle.csv_rows.specs.Quotes.{open_record, is_open}
use Rattle.csv_rows.specs.Columns.{with_columns, columns_of_header, IsHeaderOf, IsHeader}

-- the value of an attribute in a record: the field in its column
abbrev pub value_of : List ℕ → List (List ℕ) → ℕ → List ℕ
value_of columns fields a = slice_index_or fields (position_or_len (nat_eq a) columns) []

-- the tuple of a record: the value of each attribute that has a column, in the order of the schema
abbrev pub tuple_of : ℕ → List ℕ → List (List ℕ) → Tuple
tuple_of n columns fields = map (value_of columns fields) (members_below n (with_columns columns))

-- the value of an attribute in a record fits the attribute's column of the schema
abbrev pub FitsAt : Schema → List ℕ → List (List ℕ) → ℕ → Type 0
FitsAt s columns fields a =
    (column : ColumnType) → slice_get (types_of s) a ≡ Some column
    → FitsColumn column (nullable_of s a) (value_of columns fields a)

-- a record of as many fields as the header, among the most rows that a file may have
abbrev pub FitsHeader : List ℕ → ℕ → List (List ℕ) → Type 0
FitsHeader columns row fields = (length fields ≡ length columns) × (row ≤ MOST_ROWS)

-- what a record gives that stands in this row, from 1, and whose quotes are closed
abbrev pub ClosedRowOf : Schema → List ℕ → ℕ → List (List ℕ) → Result Tuple RowRefusal → Type 0
ClosedRowOf s columns row fields (Ok t) =
    FitsHeader columns row fields × (t ≡ tuple_of (width_of s) columns fields)
    × ((a : ℕ) → with_columns columns a ≡ true → FitsAt s columns fields a)
ClosedRowOf s columns row fields (Err (refusal.UnevenRow r)) = (r ≡ row) × (length fields ≢ length columns)
ClosedRowOf s columns row fields (Err refusal.TooManyRows) = (length fields ≡ length columns) × (MOST_ROWS < row)
ClosedRowOf s columns row fields (Err (refusal.NotOfType r a)) =
    FitsHeader columns row fields × (r ≡ row) × (with_columns columns a ≡ true)
    × (FitsAt s columns fields a → ⊥)
    × ((b : ℕ) → b < a → with_columns columns b ≡ true → FitsAt s columns fields b)
ClosedRowOf s columns row fields (Err refusal.NoHeader) = ⊥
ClosedRowOf s columns row fields (Err (refusal.UnknownColumn c)) = ⊥
ClosedRowOf s columns row fields (Err (refusal.DoubleColumn c)) = ⊥
ClosedRowOf s columns row fields (Err (refusal.MissingColumn a)) = ⊥
ClosedRowOf s columns row fields (Err refusal.OpenHeader) = ⊥
ClosedRowOf s columns row fields (Err (refusal.OpenRow r)) = ⊥

-- what a record gives that stands in this row and may have an open quote, which comes before all else
abbrev pub RowOf : Schema → List ℕ → Bool → ℕ → List (List ℕ) → Result Tuple RowRefusal → Type 0
RowOf s columns true row fields result = result ≡ Err (refusal.OpenRow row)
RowOf s columns false row fields result = ClosedRowOf s columns row fields result

-- what the record at a position below the header gives, where one record of the text may be open
abbrev pub RowAt : Schema → List ℕ → Option ℕ → List (List (List ℕ)) → ℕ → Result Tuple RowRefusal → Type 0
RowAt s columns unclosed records i result =
    RowOf s columns (is_open unclosed (i + 2)) (i + 1) (slice_index_or records i []) result

-- the first rows of a text are these, one for each of the first records
pub record AreFirstRows (s : Schema) (columns : List ℕ) (unclosed : Option ℕ)
    (records : List (List (List ℕ))) (rows : Relation) : Type 0 where
  pub within : length rows ≤ length records
  pub each : (i : ℕ) → i < length rows → RowAt s columns unclosed records i (Ok (slice_index_or rows i []))

-- what the records under a header give: a row each, or the refusal of the first that gives one
abbrev pub RowsUnder : Schema → Result (List ℕ) RowRefusal → Option ℕ → List (List (List ℕ))
    → Result Relation RowRefusal → Type 0
RowsUnder s (Err e) unclosed records result = result ≡ Err e
RowsUnder s (Ok columns) unclosed records (Ok rows) =
    AreFirstRows s columns unclosed records rows × (length rows ≡ length records)
RowsUnder s (Ok columns) unclosed records (Err e) =
    (rows : Relation) × AreFirstRows s columns unclosed records rows × (length rows < length records)
    × RowAt s columns unclosed records (length rows) (Err e)

-- what a header gives that may have an open quote, which comes before all that it means
abbrev pub HeaderOf : Bool → (Result (List ℕ) RowRefusal → Type 0) → Result (List ℕ) RowRefusal → Type 0
HeaderOf true Means columns = columns ≡ Err refusal.OpenHeader
HeaderOf false Means columns = Means columns

-- what the records of a text give, where a header means its columns so and one record may be open
abbrev pub TableOf : Schema → (List (List ℕ) → Result (List ℕ) RowRefusal → Type 0)
    → Option ℕ → List (List (List ℕ)) → Result Relation RowRefusal → Type 0
TableOf s Means unclosed [] result = result ≡ Err refusal.NoHeader
TableOf s Means unclosed (header ∷ records) result =
    (columns : Result (List ℕ) RowRefusal) × HeaderOf (is_open unclosed 1) (Means header) columns
    × RowsUnder s columns unclosed records result

-- the rows of a CSV text in which each attribute has a column, or the first refusal
abbrev pub RowsOf : Schema → List ℕ → Result Relation RowRefusal → Type 0
RowsOf s text result =
    TableOf s (IsHeaderOf (width_of s) (names_of s)) (open_record text) (records_of text) result

-- the same of a text in which any of the attributes have columns
abbrev pub PartOf : Schema → List ℕ → Result Relation RowRefusal → Type 0
PartOf s text result = TableOf s
    (λ header columns. columns ≡ columns_of_header (names_of s) header)
    (open_record text) (records_of text) result

-- the attributes that the header of a text names
abbrev pub HasScheme : Schema → List ℕ → AttrSet → Type 0
HasScheme s text scheme =
    (header : List (List ℕ)) × (records : List (List (List ℕ))) × (records_of text ≡ header ∷ records)
    × (columns : List ℕ) × (columns_of_header (names_of s) header ≡ Ok columns)
    × (attributes scheme ≡ with_columns columns)

-- the header of a text was read, and the records below it are still to come
pub record ReadsHeader (s : Schema) (unclosed : Option ℕ) (rs : List (List (List ℕ)))
    (reader : Reader (Bor (List ℕ))) (h : Header) : Type 0 where
  pub fields : List (List ℕ)
  pub records : List (List (List ℕ))
  pub all : rs ≡ fields ∷ records
  pub closed : is_open unclosed 1 ≡ false
  pub columns : List ℕ
  pub means : columns_of_header (names_of s) fields ≡ Ok columns
  pub kept : IsHeader (width_of s) columns h
  pub left : HasLeft reader records

-- there is no header, or it is refused
abbrev pub RefusesHeader : List (List ℕ) → Option ℕ → List (List (List ℕ)) → RowRefusal → Type 0
RefusesHeader names unclosed [] e = e ≡ refusal.NoHeader
RefusesHeader names unclosed (header ∷ records) e =
    HeaderOf (is_open unclosed 1) (λ columns. columns_of_header names header ≡ columns) (Err e)
