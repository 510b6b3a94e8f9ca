-- What is left to prove of `step_taken`: what it answers where the step is taken.
use Rattle.std.proofs.Common.{Bool, sym, subst}
use Rattle.derivation.specs.Derivs.{step_of}
use Rattle.derivation.specs.Shortened.{ConcludesOnly}
use Rattle.short_proofs.specs.Short.{taken}
use Rattle.short_proofs.proofs.shapes.step_taken.Goals as goal

pub returns-then-is_taken : goal.returns-then-is_taken
returns-then-is_taken c = record {
  only = λ t from. subst (λ (b : Bool). ConcludesOnly c.args.theory.now (taken b (step_of c.args.rule) t) c.step_dep.result) (sym c.if-is_taken.true) (c.step_dep.ensures.only t from);
}
