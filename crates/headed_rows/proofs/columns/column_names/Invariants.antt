-- What the loop of `column_names` keeps: `names` and `named`.
use Rattle.std.proofs.Common.{◌≡◌, take}
use Rattle.csv.specs.Records.{fields_of}
use Rattle.headed_rows.specs.Headers.{NameColumns}
use Rattle.headed_rows.proofs.columns.column_names.Given as goal

-- the fields so far name their columns
abbrev pub invariant-loop-i : goal.invariant-loop-i
invariant-loop-i l = record {
  names : l.names.items ≡ take l.i (fields_of l.fields);
  named : NameColumns (fields_of l.fields) l.i;
}
