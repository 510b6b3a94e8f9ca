-- What is left to prove of `step_dep`: what it answers in the case `Err`, by `step_only`.
use Rattle.std.proofs.Common.{refl}
use Rattle.std.specs.Prelude.{None, Err}
use Rattle.derivation.specs.Derivs.{step_of}
use Rattle.derivation.proofs.ShorteningLemmas.{step_only}
use Rattle.short_proofs.proofs.shapes.step_dep.Goals as goal

pub returns-in-Err : goal.returns-in-Err
returns-in-Err c = record {
  only = λ t premise.
      step_only c.args.theory.now (step_of c.args.rule) t c.in-Some.premise (Err c.in-Err.field-0) None
      (rw c.in-Some.is at premise) c.in-Err.ensures.exact (λ d is. cc) (λ k is. refl);
}
