-- The check of one reference: for `check references`.
use Rattle.std.specs.Prelude.{◌≡◌, ◌⊎◌, ◌+◌, ◌==◌, ℕ, List, ◌++◌, codes, length, map, if◌then◌else◌}
use Rattle.std.specs.Fmt.{decimal}
use Rattle.csv_text.specs.Rows.{rows_text}
use Rattle.desk_references.specs.ColumnLists.{WithColumns}
use Rattle.desk_responses.specs.ResponseValues.{Allowed, Says, Unless}
use Rattle.desk_responses.specs.declared.status.Status.TheVariants.{No, Refused, Yes}
use Rattle.desk_texts.specs.Texts.{line}
use Rattle.file_references.specs.Columns.{name_at}
use Rattle.file_references.specs.Matches.{distinct_values, unmatched_rows}
use Rattle.file_references.specs.References.{Includes}
use Rattle.headed_rows.specs.Headings.{HeadedRows}
use Rattle.row_groups.specs.Numberings.{number_at}

-- ---- texts
abbrev pub all_matched_text : List ℕ
all_matched_text = line (codes "every row has its match")

-- how many rows have no match, and the number of the first
abbrev pub count_text : ℕ → ℕ → List ℕ
count_text count first =
    if count == 1
    then codes "1 row has no match, row " ++ decimal first
    else decimal count ++ codes " rows have no match, the first is row " ++ decimal first

-- that, and below it the names of columns and each list of values of these rows, once
abbrev pub unmatched_text : HeadedRows → List ℕ → List ℕ → List ℕ
unmatched_text headed columns rows =
    line (count_text (length rows) (number_at rows 0 + 1))
    ++ rows_text (map (name_at headed.names) columns) (distinct_values headed.rows columns rows)

abbrev pub as_many_text : List ℕ
as_many_text = line (codes "refused: as many names in both are needed")

-- ---- answers
-- yes where the values of each row that misses none of them are those of a row of the other file, else
-- the rows for which they are not
abbrev pub JudgesReference : HeadedRows → List ℕ → HeadedRows → List ℕ → Allowed
JudgesReference one x other k response =
    (Includes one.rows x other.rows k × Says Yes all_matched_text response)
    ⊎ ((Includes one.rows x other.rows k → ⊥)
    × Says No (unmatched_text one x (unmatched_rows one.rows x other.rows k)) response)

-- the columns of the two files are not as many
abbrev pub StopsUnpaired : List ℕ → List ℕ → Allowed
StopsUnpaired x k response = (length x ≡ length k → ⊥) × Says Refused as_many_text response

-- of a file and another one, the columns that two words state, paired in their order
abbrev pub ChecksReferences : HeadedRows → List ℕ → HeadedRows → List ℕ → Allowed
ChecksReferences one first other second =
    WithColumns (codes "first") one.names first (λ x. WithColumns (codes "second") other.names second (λ k.
    Unless (StopsUnpaired x k) (length x ≡ length k) (JudgesReference one x other k)))
