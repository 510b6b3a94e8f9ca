-- What the loop of `add_rows` keeps: `added`.
use Rattle.std.proofs.Common.{◌≡◌, ◌++◌, take}
use Rattle.csv_text.specs.Rows.{rows_only}
use Rattle.desk_references.proofs.checking.add_rows.Given as goal

-- the rows so far
abbrev pub invariant-loop-row : goal.invariant-loop-row
invariant-loop-row l = record { added : l.text.items ≡ l.fn.text.items ++ rows_only (take l.row l.rows) }
