-- What the loop of `read_closed_row` keeps: `takes`.
use Rattle.std.proofs.Common.{ℕ, List}
use Rattle.csv.specs.Records.{fields_of}
use Rattle.schema_model.specs.Schemas.{width_of}
use Rattle.csv_rows.specs.Columns.{IsHeader}
use Rattle.csv_rows.proofs.ReadingLemmas.{Takes}
use Rattle.csv_rows.proofs.reading.read_closed_row.Given as goal

-- the values so far are those of the first attributes that have a column
abbrev pub invariant-loop-entry : goal.invariant-loop-entry
invariant-loop-entry l = record {
  takes : (columns : List ℕ) → IsHeader (width_of l.schema) columns l.header → Takes l.schema columns (fields_of l.fields) l.entry-index l.values;
}
