-- What the loop of `follow_steps` keeps: `Follows`.
use Rattle.dep_model.specs.Deps.{dependencies_of}
use Rattle.tableau_chase.specs.Equating.{Follows}
use Rattle.tableau_chase.proofs.following.follow_steps.Given as goal

abbrev pub invariant-loop : goal.invariant-loop
invariant-loop l = Follows (dependencies_of l.deps) l.initial.rows l.rows
