-- What the loop of `close_functionally` keeps: `IsClosingFunctionally`; and by what it ends.
use Rattle.std.proofs.Common.{◌+◌, suc, cond}
use Rattle.dep_model.specs.Deps.{dependencies_of}
use Rattle.chase_laws.proofs.EndLemmas.{symbols_in_use}
use Rattle.tableau_chase.proofs.FunctionalClosingLemmas.{tableau_total, IsClosingFunctionally}
use Rattle.tableau_chase.proofs.functional_closing.close_functionally.Given as goal

abbrev pub invariant-loop-changed : goal.invariant-loop-changed
invariant-loop-changed l = IsClosingFunctionally l.width (dependencies_of l.deps) l.initial.rows l.rows l.changed

abbrev pub decreases-loop-changed : goal.decreases-loop-changed
decreases-loop-changed l = symbols_in_use l.width (suc (tableau_total l.initial.rows)) l.rows + cond l.changed 1 0
