-- What is left to prove of `unless_start`: what begins concludes one dependency at most.
use Rattle.std.proofs.Common.{◌≡◌, ap, subst}
use Rattle.attr_sets.specs.Attributes.{Attributes, IsSubset}
use Rattle.attr_sets.specs.Sets.{attributes}
use Rattle.dep_model.specs.declared.dep.Dep.{Dep}
use Rattle.dep_model.specs.Dependencies.{mvd, left_of, right_of}
use Rattle.dep_model.specs.Deps.{dependency_of}
use Rattle.derivation.specs.Conclusions.{Proves}
use Rattle.derivation.proofs.ConclusionLemmas.{Proves-one}
use Rattle.short_proofs.specs.Short.{start, IsJoinedBy}
use Rattle.short_proofs.proofs.joints.unless_start.Goals as goal

pub returns-in_ok-after-in-Some-Mvd-clause-short : goal.returns-in_ok-after-in-Some-Mvd-clause-short
returns-in_ok-after-in-Some-Mvd-clause-short c = λ u is proves.
    let s = c.args.theory.now in
    let d = dependency_of c.args.goal in
    let first = start c.args.number c.args.replicated c.args.complemented in
    let told : Proves s first (dependency_of c.in-Some-Mvd.field-0) = (rw c.in-Some-Mvd.is at c.start_dep.ensures.only) in
    let here : Proves s first (mvd (attributes c.in-Some-Mvd.lhs) (attributes c.in-Some-Mvd.rhs)) = subst (λ (e : Dep). Proves s first (dependency_of e)) c.in-Some-Mvd.field-0-is told in
    let same : mvd is.0 is.1 ≡ mvd (attributes c.in-Some-Mvd.lhs) (attributes c.in-Some-Mvd.rhs) = Proves-one s first (mvd is.0 is.1) (mvd (attributes c.in-Some-Mvd.lhs) (attributes c.in-Some-Mvd.rhs)) is.2 here in
    c.in_ok-after-in-Some-Mvd.ensures.short u (
      subst (λ (v : Attributes). IsSubset v (left_of d)) (ap left_of same) is.3,
      (is.4.0, subst (λ (w : Attributes). IsJoinedBy s d first w is.4.0 u) (ap right_of same) is.4.1),
    ) proves
