-- What the loop of `closure_steps` keeps: the steps so far, and what is there by then.
use Rattle.std.proofs.Common.{◌≡◌, ◌-◌}
use Rattle.std.specs.Prelude.{All}
use Rattle.attr_sets.specs.Attributes.{IsSubset, count_below}
use Rattle.attr_sets.specs.Sets.{attributes}
use Rattle.attr_sets.specs.declared.set.TheConstants.{MOST_ATTRIBUTES}
use Rattle.dep_model.specs.Theories.{theory_of, universe_of}
use Rattle.closure_steps.specs.Steps.{AreSteps, reached, closure_step_values}
use Rattle.closure_steps.proofs.steps.closure_steps.Given as goal

abbrev pub invariant-loop-step : goal.invariant-loop-step
invariant-loop-step l = record {
  each : AreSteps (theory_of l.theory) (attributes l.fn.set) (closure_step_values l.steps.items);
  there : attributes l.reached ≡ reached (attributes l.fn.set) (closure_step_values l.steps.items);
  within : All (λ step. IsSubset (attributes step.added) (universe_of l.theory)) l.steps.items;
}

abbrev pub decreases-loop-step : goal.decreases-loop-step
decreases-loop-step l = MOST_ATTRIBUTES - count_below (attributes l.reached) MOST_ATTRIBUTES
