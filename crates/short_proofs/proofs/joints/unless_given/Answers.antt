-- What is left to prove of `unless_given`: where the sets do not fit nothing is listed; else it is by the goal's kind.
use Rattle.std.proofs.Common.{sym, subst, ap, ◌∙◌}
use Rattle.attr_sets.specs.Attributes.{Attributes, union, difference}
use Rattle.attr_sets.specs.Sets.{attributes}
use Rattle.dep_model.specs.declared.dep.Dep.{Dep}
use Rattle.dep_model.specs.Deps.{dependency_of}
use Rattle.dep_model.specs.Theories.{universe_of}
use Rattle.derivation.specs.Trees.{Tree}
use Rattle.derivation.specs.Derivs.{tree_of}
use Rattle.short_proofs.specs.Short.{start, SetsFit, FitBeyond, IsJoinedTree, IsCoalescence, IsNoLongerThan}
use Rattle.short_proofs.proofs.joints.unless_given.Goals as goal

pub returns-then-not-fits-clause-short : goal.returns-then-not-fits-clause-short
returns-then-not-fits-clause-short c = λ u is proves.
    let s = c.args.theory.now in
    let d = dependency_of c.args.goal in
    let w = attributes c.args.middle in
    let rest = c.beyond.ensures.members ∙ ap (λ (x : Attributes). difference (universe_of s) (union w x)) c.sides.ensures.left in
    absurd (c.fits.ensures.none c.if-not-fits.true (subst (λ (b : Attributes). FitBeyond b d w (dependency_of c.args.dep)) (sym rest) is.0))

pub returns-in_ok-joined-in-Mvd-clause-short : goal.returns-in_ok-joined-in-Mvd-clause-short
returns-in_ok-joined-in-Mvd-clause-short c =
    let s = c.args.theory.now in
    let first = start c.args.first.number c.args.first.replicated c.args.first.complemented in
    subst
    (λ (e : Dep). IsNoLongerThan s (dependency_of e) (λ (u : Tree). SetsFit s (dependency_of e) (attributes c.args.middle) (dependency_of c.args.dep)
    × IsJoinedTree (dependency_of e) first (attributes c.args.middle) c.args.number (dependency_of c.args.dep) u) (tree_of c.in_ok-joined-in-Mvd.joined.value))
    (sym c.in-Mvd.is) (λ u is proves. c.in_ok-joined-in-Mvd.ensures.short u is.1 proves)

pub returns-in_ok-joined-in-Fd-clause-short : goal.returns-in_ok-joined-in-Fd-clause-short
returns-in_ok-joined-in-Fd-clause-short c =
    let s = c.args.theory.now in
    let first = start c.args.first.number c.args.first.replicated c.args.first.complemented in
    subst
    (λ (e : Dep). IsNoLongerThan s (dependency_of e) (λ (u : Tree). SetsFit s (dependency_of e) (attributes c.args.middle) (dependency_of c.args.dep)
    × IsJoinedTree (dependency_of e) first (attributes c.args.middle) c.args.number (dependency_of c.args.dep) u) (tree_of c.in_ok-joined-in-Fd.joined.value))
    (sym c.in-Fd.is) (λ u is proves. c.in_ok-joined-in-Fd.ensures.short u
    (subst (λ (r : Attributes). IsCoalescence (attributes c.in-Fd.lhs) (attributes c.in-Fd.rhs) r first c.args.number u) (sym c.sides-2.ensures.right) is.1) proves)
