-- What the loop of `chase` keeps: `IsRound`; and by what it ends.
use Rattle.std.proofs.Common.{length}
use Rattle.dep_model.specs.Theories.{theory_of}
use Rattle.chase_laws.proofs.EndLemmas.{what_is_left}
use Rattle.dep_model.specs.Plans.{schemes_of}
use Rattle.tableau_chase.proofs.ChaseLemmas.{IsRound}
use Rattle.tableau_chase.proofs.chasing.chase.Given as goal

abbrev pub invariant-loop-rows : goal.invariant-loop-rows
invariant-loop-rows l = IsRound l.width (theory_of l.theory) (schemes_of l.schemes) l.limit l.rows.items

abbrev pub decreases-loop-rows : goal.decreases-loop-rows
decreases-loop-rows l = what_is_left l.width (length (schemes_of l.schemes)) l.limit l.rows.items
