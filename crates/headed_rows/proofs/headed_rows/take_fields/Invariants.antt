-- What the loop of `take_fields` keeps, in terms of `fields_of`.
use Rattle.std.proofs.Common.{◌≡◌, take}
use Rattle.csv.specs.Records.{fields_of}
use Rattle.headed_rows.proofs.headed_rows.take_fields.Given as goal

-- the values so far are the first fields
abbrev pub invariant-loop-i : goal.invariant-loop-i
invariant-loop-i l = record { so_far : l.values ≡ take l.i (fields_of l.fields) }
