-- What is left to prove of `unless_joined`: that a round of its loop keeps the invariant, and what it answers.
use Rattle.std.proofs.Common.{ℕ, Bool, List, length, ap, arith}
use Rattle.dep_model.specs.declared.dep.Dep.{Dep}
use Rattle.dep_model.specs.Dependencies.{mvd}
use Rattle.dep_model.specs.Deps.{dependency_of}
use Rattle.derivation.specs.Trees.{Tree}
use Rattle.derivation.specs.Derivs.{tree_of}
use Rattle.short_proofs.specs.Short.{start, IsJoinedFrom}
use Rattle.short_proofs.proofs.KeptLemmas.{kept_further}
use Rattle.short_proofs.proofs.PairLemmas.{round_kept, start_low}
use Rattle.short_proofs.proofs.joints.unless_joined.Goals as goal

pub loop-number-preserved : goal.loop-number-preserved
loop-number-preserved c =
    let s = c.args.theory.now in
    let d = dependency_of c.args.goal in
    let before = tree_of c.loop-number.best.value in
    let now = tree_of c.in_ok-best.best.value in
    record {
      kept = kept_further s d (tree_of c.args.deriv.value) before now c.loop-number.invariant.kept c.in_ok-best.ensures.kept;
      short = round_kept s d (λ (k : ℕ) (u : Tree). (r co : Bool) × IsJoinedFrom s d (start k r co) u) c.loop-number.number before now c.in_ok-best.ensures.kept c.loop-number.invariant.short c.in_ok-best.ensures.short;
    }

pub returns-clause-short : goal.returns-clause-short
returns-clause-short c = λ u is proves.
    let low = start_low c.args.theory.now is.0 is.1.0 is.1.1 (mvd is.1.2.0 is.1.2.1) is.1.2.2 in
    let all = ap (λ (ds : List Dep). length ds) c.deps-number-end.ensures.deps in
    let passed = c.loop-number-test.false in
    c.loop-number.invariant.short is.0 (omega (arith, low, all, passed)) u is.1 proves
