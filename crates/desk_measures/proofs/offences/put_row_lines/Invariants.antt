-- What the loop of `put_row_lines` keeps: the lines of the rows so far.
use Rattle.std.proofs.Common.{◌≡◌, ◌++◌, take}
use Rattle.std.specs.List.{flat_map}
use Rattle.csv_text.specs.Rows.{csv_row}
use Rattle.desk_measures.specs.Offences.{row_fields}
use Rattle.desk_measures.proofs.offences.put_row_lines.Given as goal

abbrev pub invariant-loop-row : goal.invariant-loop-row
invariant-loop-row l = l.text.items ≡ l.fn.text.items
    ++ flat_map (λ row. csv_row (row_fields l.schema l.rows l.k row)) (take l.row-index l.broken)
