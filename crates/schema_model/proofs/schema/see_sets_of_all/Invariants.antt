-- What the loop of `see_sets_of_all` keeps: the sets of the dependencies before are such numbers.
use Rattle.std.proofs.Common.{take, All}
use Rattle.schema_model.specs.Validity.{HasSetNumbers}
use Rattle.schema_model.proofs.schema.see_sets_of_all.Given as goal

abbrev pub invariant-loop-dep : goal.invariant-loop-dep
invariant-loop-dep l = All HasSetNumbers (take l.dep-index l.deps)
