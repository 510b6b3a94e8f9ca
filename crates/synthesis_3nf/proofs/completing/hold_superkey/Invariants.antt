-- What the loop of `hold_superkey` keeps: `HoldSuperkey`.
use Rattle.std.proofs.Common.{take}
use Rattle.dep_model.specs.Theories.{width_of, theory_of}
use Rattle.dep_model.specs.Plans.{schemes_of}
use Rattle.synthesis_3nf.specs.GroupedPlans.{HoldSuperkey}
use Rattle.synthesis_3nf.proofs.completing.hold_superkey.Given as goal

abbrev pub invariant-loop-scheme : goal.invariant-loop-scheme
invariant-loop-scheme l = HoldSuperkey (width_of l.theory) (theory_of l.theory) (schemes_of (take l.scheme-index l.schemes)) → ⊥
