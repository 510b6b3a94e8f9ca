-- What the loop of `row_with_zeros_on` keeps, in terms of `zeros_on`.
use Rattle.std.proofs.Common.{◌≡◌}
use Rattle.attr_sets.specs.Sets.{attributes}
use Rattle.dep_model.specs.TwoTuples.{zeros_on}
use Rattle.dep_basis.proofs.witnessing.row_with_zeros_on.Given as goal

abbrev pub invariant-loop-i : goal.invariant-loop-i
invariant-loop-i l = l.values.items ≡ zeros_on l.i (attributes l.zeros)
