-- What the loop of `take_names` keeps: `fields` and `partial`.
use Rattle.std.proofs.Common.{◌≡◌, [], take}
use Rattle.csv.specs.Records.{fields_of, partial_of}
use Rattle.schema_model.specs.Schemas.{names_of}
use Rattle.csv_rows.proofs.printing.take_names.Given as goal

-- the fields are the first names, with no part of a further one
abbrev pub invariant-loop-i : goal.invariant-loop-i
invariant-loop-i l = record {
  fields : fields_of l.fields ≡ take l.i (names_of l.schema);
  partial : partial_of l.fields ≡ [];
}
