-- What the loop of `rows_for` keeps, in terms of `schemes_of` and `tuples_for`.
use Rattle.std.proofs.Common.{◌≡◌, take}
use Rattle.dep_model.specs.Plans.{schemes_of}
use Rattle.armstrong_rel.specs.Exhibits.{tuples_for}
use Rattle.armstrong_rel.proofs.rows.rows_for.Given as goal

abbrev pub invariant-loop-k : goal.invariant-loop-k
invariant-loop-k l = l.rows.items ≡ tuples_for l.width (schemes_of (take l.k l.sets))
