-- What is left to prove of `unless_after`: that a round of its loop keeps the invariant, and what it answers.
use Rattle.std.proofs.Common.{ℕ, List, length, ap, arith}
use Rattle.attr_sets.specs.Sets.{attributes}
use Rattle.dep_model.specs.declared.dep.Dep.{Dep}
use Rattle.dep_model.specs.Deps.{dependency_of}
use Rattle.derivation.specs.Derivs.{tree_of}
use Rattle.short_proofs.specs.Short.{start, IsJoinedBy}
use Rattle.short_proofs.proofs.KeptLemmas.{kept_further}
use Rattle.short_proofs.proofs.PairLemmas.{round_kept, given_low}
use Rattle.short_proofs.proofs.joints.unless_after.Goals as goal

pub loop-number-preserved : goal.loop-number-preserved
loop-number-preserved c =
    let s = c.args.theory.now in
    let d = dependency_of c.args.goal in
    let first = start c.args.first.number c.args.first.replicated c.args.first.complemented in
    let before = tree_of c.loop-number.best.value in
    let now = tree_of c.in_ok-best.best.value in
    record {
      kept = kept_further s d (tree_of c.args.deriv.value) before now c.loop-number.invariant.kept c.in_ok-best.ensures.kept;
      short = round_kept s d (λ (j : ℕ). IsJoinedBy s d first (attributes c.args.middle) j) c.loop-number.number before now c.in_ok-best.ensures.kept c.loop-number.invariant.short c.in_ok-best.ensures.short;
    }

pub returns-clause-short : goal.returns-clause-short
returns-clause-short c = λ u is proves.
    let low = given_low c.args.theory.now is.1.0 is.1.1.0 is.1.1.1 in
    let all = ap (λ (ds : List Dep). length ds) c.deps-number-end.ensures.deps in
    let passed = c.loop-number-test.false in
    c.loop-number.invariant.short is.1.0 (omega (arith, low, all, passed)) u is.1.1 proves

pub returns-then-not-may_begin-clause-short : goal.returns-then-not-may_begin-clause-short
returns-then-not-may_begin-clause-short c = λ u is proves. absurd (c.may_begin.ensures.none is.1.0 is.1.1.0 c.if-not-may_begin.true is.0 is.1.1.1 is.1.1.2)
