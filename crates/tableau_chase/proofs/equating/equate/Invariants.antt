-- What the loop of `equate` keeps: `AreEquatedUpTo`.
use Rattle.attr_sets.specs.Sets.{attributes}
use Rattle.tableau_chase.proofs.EquatingLemmas.{AreEquatedUpTo}
use Rattle.tableau_chase.proofs.equating.equate.Given as goal

abbrev pub invariant-loop-k : goal.invariant-loop-k
invariant-loop-k l = AreEquatedUpTo (attributes l.fn.on) l.listed l.k l.first l.second l.initial.rows l.rows l.changed
