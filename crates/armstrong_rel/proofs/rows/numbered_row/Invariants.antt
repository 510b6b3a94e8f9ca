-- What the loop of `numbered_row` keeps, in terms of `numbered_tuple`.
use Rattle.std.proofs.Common.{◌≡◌}
use Rattle.attr_sets.specs.Sets.{attributes}
use Rattle.armstrong_rel.specs.Exhibits.{numbered_tuple}
use Rattle.armstrong_rel.proofs.rows.numbered_row.Given as goal

abbrev pub invariant-loop-i : goal.invariant-loop-i
invariant-loop-i l = l.values.items ≡ numbered_tuple l.i l.number (attributes l.zeros)
