-- What is left to prove of `unless_begun`: what was kept four times is kept, and no longer than any of these.
use Rattle.std.proofs.Common.{Bool}
use Rattle.dep_model.specs.Deps.{dependency_of}
use Rattle.derivation.specs.Trees.{Tree}
use Rattle.derivation.specs.Derivs.{tree_of}
use Rattle.short_proofs.specs.Short.{start, IsJoinedFrom}
use Rattle.short_proofs.proofs.PairLemmas.{four_kept}
use Rattle.short_proofs.proofs.joints.unless_begun.Goals as goal

pub returns : goal.returns
returns c =
    let s = c.args.theory.now in
    let d = dependency_of c.args.goal in
    let all = four_kept s d (λ (r co : Bool) (u : Tree). IsJoinedFrom s d (start c.args.number r co) u) (tree_of c.args.deriv.value) (tree_of c.in_ok-one.one.value) (tree_of c.in_ok-two.two.value)
    (tree_of c.in_ok-three.three.value) (tree_of c.in_ok-four.four.value)
    c.in_ok-one.ensures.kept c.in_ok-one.ensures.short c.in_ok-two.ensures.kept c.in_ok-two.ensures.short
    c.in_ok-three.ensures.kept c.in_ok-three.ensures.short c.in_ok-four.ensures.kept c.in_ok-four.ensures.short in
    record { kept = all.0; short = all.1 }
