-- What the loop of `header_line` keeps: `fields` and `partial`.
use Rattle.std.proofs.Common.{◌≡◌, [], take}
use Rattle.csv.specs.Records.{fields_of, partial_of}
use Rattle.csv_text.proofs.lines.header_line.Given as goal

-- the fields are the first names, with no part of a further one
abbrev pub invariant-loop-name : goal.invariant-loop-name
invariant-loop-name l = record {
  fields : fields_of l.fields ≡ take l.name-index l.names;
  partial : partial_of l.fields ≡ [];
}
