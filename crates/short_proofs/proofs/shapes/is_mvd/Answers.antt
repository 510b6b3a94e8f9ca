-- What is left to prove of `is_mvd`: what it answers, where there is a dependency and where there is none.
use Rattle.std.proofs.Common.{subst}
use Rattle.std.proofs.lemmas.Bool.{false≢true}
use Rattle.attr_sets.specs.Sets.{attributes}
use Rattle.dep_model.specs.Dependencies.{mvd}
use Rattle.dep_model.specs.Deps.{dependency_of}
use Rattle.derivation.specs.Conclusions.{Proves}
use Rattle.derivation.proofs.ConclusionLemmas.{Proves-one}
use Rattle.short_proofs.proofs.shapes.is_mvd.Goals as goal

pub returns-in-Some : goal.returns-in-Some
returns-in-Some c = record {
  is_mvd = λ s t only.
      let here : Proves s t (dependency_of c.in-Some.found) = (rw c.in-Some.is at only) in (
        (λ e. subst (Proves s t) (c.is_same.ensures.same.0 e) here),
        (λ proves. c.is_same.ensures.same.1 (Proves-one s t (dependency_of c.in-Some.found) (mvd (attributes c.args.lhs) (attributes c.args.rhs)) here proves)),
      );
}

pub returns-in-None : goal.returns-in-None
returns-in-None c = record {
  is_mvd = λ s t only. (
    (λ e. absurd (false≢true e)),
    (λ proves. absurd ((rw c.in-None.is at only) (mvd (attributes c.args.lhs) (attributes c.args.rhs)) proves)),
  );
}
