-- What the loop of `irreducible_sets` keeps: `IsWalk`; and by what it ends.
use Rattle.dep_model.specs.Theories.{width_of, theory_of}
use Rattle.armstrong_rel.proofs.FoundLemmas.{IsWalk, parts_left}
use Rattle.armstrong_rel.proofs.irreducible.irreducible_sets.Given as goal

abbrev pub invariant-loop-next : goal.invariant-loop-next
invariant-loop-next l = IsWalk (width_of l.theory) (theory_of l.theory) l.next l.found.items

abbrev pub decreases-loop-next : goal.decreases-loop-next
decreases-loop-next l = parts_left l.next
