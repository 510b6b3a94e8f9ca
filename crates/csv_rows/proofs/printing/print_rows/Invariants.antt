-- What the loop of `print_rows` keeps: `HasWritten`.
use Rattle.std.proofs.Common.{Some, take}
use Rattle.csv_text.specs.Rows.{HasWritten, rows_text}
use Rattle.schema_model.specs.Schemas.{names_of}
use Rattle.csv_rows.proofs.printing.print_rows.Given as goal

-- the header and the rows so far are written
abbrev pub invariant-loop-row : goal.invariant-loop-row
invariant-loop-row l = HasWritten (λ v. Some v.items) l.writer (rows_text (names_of l.schema) (take l.row l.rows))
