-- What is left to prove of `follows_from_others`: what `is_implied_by` requires of the others, and the
-- clause `follows`.
use Rattle.std.proofs.Common.{◌↔◌, ℕ, List, sym, ap, subst, ◌∙◌}
use Rattle.std.proofs.lemmas.Option.{same_Some}
use Rattle.std.specs.List.{remove}
use Rattle.std.specs.Prelude.{IsTrue}
use Rattle.dep_model.specs.Dependencies.{Dependency}
use Rattle.dep_model.specs.Deps.{dependency_of, dependencies_of}
use Rattle.dep_model.specs.Implication.{Implies}
use Rattle.schema_model.specs.Schemas.{width_of, theory_of}
use Rattle.desk_reports.proofs.rules.follows_from_others.Goals as goal

pub is_implied_by-requires-clause-deps : goal.is_implied_by-requires-clause-deps
is_implied_by-requires-clause-deps c = rw (c.deref.ensures.value, c.width.ensures.count) (rw (c.theory.ensures.theory) at c.in_ok-dep.ensures.others_within)

pub returns : goal.returns
returns c =
    let s = c.args.schema.now in
    let k = c.args.k in
    let dep = dependency_of c.in_ok-dep.dep in
    let at_k = rw (c.theory.ensures.theory) at c.in_ok-dep.ensures.dep in
    let told = subst (λ (w : ℕ). IsTrue c.is_implied_by.result ↔ Implies w (dependencies_of c.deref.result.now) dep) c.width.ensures.count c.is_implied_by.ensures.implied in
    let of_others = subst (λ (ds : List Dependency). IsTrue c.is_implied_by.result ↔ Implies (width_of s) ds dep)
    (ap dependencies_of c.deref.ensures.value ∙ (rw (c.theory.ensures.theory) at c.in_ok-dep.ensures.others)) told in
    record {
      follows = (
        (λ true d read.
            subst (λ (e : Dependency). Implies (width_of s) (remove (theory_of s) k) e)
            (same_Some dep d (sym at_k ∙ read)) (of_others.0 true)),
        (λ follows. of_others.1 (follows dep at_k)),
      );
    }
