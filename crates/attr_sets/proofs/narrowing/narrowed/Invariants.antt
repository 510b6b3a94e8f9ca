-- What the loop of `narrowed` keeps: `IsTriedTo`.
use Rattle.attr_sets.specs.Sets.{attributes}
use Rattle.attr_sets.proofs.NarrowingLemmas.{IsTriedTo}
use Rattle.attr_sets.proofs.narrowing.narrowed.Given as goal

abbrev pub invariant-loop-step : goal.invariant-loop-step
invariant-loop-step g l = IsTriedTo l.direction (goal.F-post g l.passes) (attributes l.tried) (attributes l.fn.start) l.step (attributes l.kept)
