-- What the loop of `read_body` keeps: `within_limit` and `progress`; and by what it ends.
use Rattle.std.proofs.Common.{◌≤◌, ◌-◌, ℕ, List, length}
use Rattle.schema_model.specs.Schemas.{width_of}
use Rattle.csv_rows.specs.Records.{HasLeft}
use Rattle.csv_rows.specs.Columns.{IsHeader}
use Rattle.csv_rows.proofs.ReadingLemmas.{Progress}
use Rattle.csv_rows.proofs.reading.read_body.Given as goal

-- the records so far gave these rows
abbrev pub invariant-records : goal.invariant-records
invariant-records l = record {
  within_limit : length l.rows ≤ 10000000;
  progress : (rs : List (List (List ℕ))) (columns : List ℕ) → HasLeft l.fn.reader rs → IsHeader (width_of l.schema) columns l.header
      → Progress l.schema columns l.unclosed rs l.reader l.rows;
}

abbrev pub decreases-records : goal.decreases-records
decreases-records l = 10000000 - length l.rows
