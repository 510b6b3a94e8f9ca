-- What the loop of `add_fields` keeps, in terms of `row_body`.
use Rattle.std.proofs.Common.{◌≡◌, ◌++◌, take}
use Rattle.csv.specs.Writing.{default_writer, row_body}
use Rattle.csv_text.proofs.adding.add_fields.Given as goal

-- the fields so far
abbrev pub invariant-loop-i : goal.invariant-loop-i
invariant-loop-i l = l.text.items ≡ l.fn.text.items ++ row_body default_writer (take l.i l.row)
