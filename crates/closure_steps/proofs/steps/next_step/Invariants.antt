-- What the loop of `next_step` keeps: the dependencies so far add nothing.
use Rattle.std.proofs.Common.{take}
use Rattle.std.specs.Prelude.{All}
use Rattle.attr_sets.specs.Sets.{attributes}
use Rattle.dep_model.specs.Theories.{theory_of}
use Rattle.closure_steps.specs.Steps.{Adds}
use Rattle.closure_steps.proofs.steps.next_step.Given as goal

abbrev pub invariant-loop-k : goal.invariant-loop-k
invariant-loop-k l = All (λ d. Adds (attributes l.closed) d → ⊥) (take l.k (theory_of l.theory))
