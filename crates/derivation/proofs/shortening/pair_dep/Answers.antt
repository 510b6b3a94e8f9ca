-- What is left to prove of `pair_dep`: what it answers in the case `Err`, by `pair_only`.
use Rattle.std.proofs.Common.{refl}
use Rattle.std.specs.Prelude.{None, Err}
use Rattle.derivation.specs.Derivs.{pair_of}
use Rattle.derivation.proofs.ShorteningLemmas.{pair_only}
use Rattle.derivation.proofs.shortening.pair_dep.Goals as goal

pub returns-in-Err : goal.returns-in-Err
returns-in-Err c = record {
  only = λ s t u first second.
      pair_only s (pair_of c.args.rule) t u c.in-Some-Some.one c.in-Some-Some.other (Err c.in-Err.field-0) None
      (rw c.in-Some-Some.is-0 at first) (rw c.in-Some-Some.is-1 at second) c.in-Err.ensures.exact (λ d is. cc) (λ k is. refl);
}
