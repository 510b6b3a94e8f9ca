-- What the loop of `visible_violation` keeps: `All`.
use Rattle.std.proofs.Common.{take}
use Rattle.std.specs.Prelude.{All}
use Rattle.attr_sets.specs.Sets.{attributes}
use Rattle.dep_model.specs.Theories.{width_of, theory_of}
use Rattle.normal_forms.specs.Chosen.{IsNoViolation}
use Rattle.normal_forms.proofs.testing.visible_violation.Given as goal

abbrev pub invariant-loop-dep : goal.invariant-loop-dep
invariant-loop-dep l = All (IsNoViolation (width_of l.theory) (theory_of l.theory) l.form (attributes l.scheme)) (take l.dep-index (theory_of l.theory))
