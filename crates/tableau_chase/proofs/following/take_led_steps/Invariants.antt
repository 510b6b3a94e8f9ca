-- What the loop of `take_led_steps` keeps: `Follows`.
use Rattle.dep_model.specs.Deps.{dependencies_of}
use Rattle.tableau_chase.specs.Equating.{Follows}
use Rattle.tableau_chase.proofs.following.take_led_steps.Given as goal

abbrev pub invariant-loop-k : goal.invariant-loop-k
invariant-loop-k l = Follows (dependencies_of l.deps) l.initial.rows l.rows
