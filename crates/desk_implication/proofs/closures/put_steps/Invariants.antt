-- What the loop of `put_steps` keeps, in terms of `steps_text`.
use Rattle.std.proofs.Common.{◌≡◌, ◌++◌, take}
use Rattle.closure_steps.specs.Steps.{closure_step_values}
use Rattle.desk_implication.specs.Closures.{steps_text}
use Rattle.desk_implication.proofs.closures.put_steps.Given as goal

abbrev pub invariant-loop-step : goal.invariant-loop-step
invariant-loop-step l = l.text.items ≡ l.fn.text.items ++ steps_text l.schema (closure_step_values (take l.step-index l.steps))
