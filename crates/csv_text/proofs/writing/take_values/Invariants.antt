-- What the loop of `take_values` keeps: `fields` and `partial`.
use Rattle.std.proofs.Common.{◌≡◌, [], take}
use Rattle.csv.specs.Records.{fields_of, partial_of}
use Rattle.row_store.specs.Rows.{row_at}
use Rattle.csv_text.proofs.writing.take_values.Given as goal

-- the fields are the first values, with no part of a further one
abbrev pub invariant-loop-i : goal.invariant-loop-i
invariant-loop-i l = record {
  fields : fields_of l.fields ≡ take l.i (row_at l.rows l.row);
  partial : partial_of l.fields ≡ [];
}
