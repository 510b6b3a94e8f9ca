-- What is left to prove of `unless_pair`: the dependency of this number is the one that was read.
use Rattle.std.proofs.Common.{◌≡◌, subst}
use Rattle.attr_sets.specs.Sets.{attributes}
use Rattle.dep_model.specs.Dependencies.{Dependency}
use Rattle.dep_model.specs.Deps.{dependency_of}
use Rattle.derivation.specs.Trees.{leaf, given}
use Rattle.derivation.specs.Conclusions.{Proves}
use Rattle.derivation.proofs.ChainLemmas.{given_proves}
use Rattle.derivation.proofs.ConclusionLemmas.{Proves-one}
use Rattle.short_proofs.specs.Short.{start, SetsFit, IsJoinedTree}
use Rattle.short_proofs.proofs.joints.unless_pair.Goals as goal

pub returns-in_ok-after-in-Some-clause-short : goal.returns-in_ok-after-in-Some-clause-short
returns-in_ok-after-in-Some-clause-short c = λ u is proves.
    let s = c.args.theory.now in
    let d = dependency_of c.args.goal in
    let first = start c.args.first.number c.args.first.replicated c.args.first.complemented in
    let here : Proves s (leaf (given c.args.number)) (dependency_of c.in-Some.dep) = (rw c.in-Some.is at c.given_dep.ensures.only) in
    let same : is.0 ≡ dependency_of c.in-Some.dep = Proves-one s (leaf (given c.args.number)) is.0 (dependency_of c.in-Some.dep) (given_proves s c.args.number is.0 is.1) here in
    c.in_ok-after-in-Some.ensures.short u
    (subst (λ (e : Dependency). SetsFit s d (attributes c.args.middle) e × IsJoinedTree d first (attributes c.args.middle) c.args.number e u) same (is.2, is.3)) proves

pub returns-in-None-clause-short : goal.returns-in-None-clause-short
returns-in-None-clause-short c = λ u is proves.
    absurd ((rw c.in-None.is at c.given_dep.ensures.only) is.0 (given_proves c.args.theory.now c.args.number is.0 is.1))
