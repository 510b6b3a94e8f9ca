-- What the loop of `sample_rows` keeps, in terms of `sample_relation`.
use Rattle.std.proofs.Common.{◌≡◌}
use Rattle.sample_rows.specs.Sample.{sample_relation}
use Rattle.sample_rows.proofs.rows.sample_rows.Given as goal

-- the rows of the persons so far
abbrev pub invariant-loop-person : goal.invariant-loop-person
invariant-loop-person l = record { rows : l.rows ≡ sample_relation l.person }
