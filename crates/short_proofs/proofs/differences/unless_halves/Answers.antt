-- What is left to prove of `unless_halves`: what was kept four times is kept, and no longer than any of these.
use Rattle.std.proofs.Common.{◌≡◌, Bool}
use Rattle.attr_sets.specs.Sets.{attributes}
use Rattle.dep_model.specs.Dependencies.{mvd}
use Rattle.derivation.specs.Trees.{Tree}
use Rattle.derivation.specs.Derivs.{tree_of}
use Rattle.short_proofs.specs.Shapes.{tree_of_halves}
use Rattle.short_proofs.proofs.PairLemmas.{four_kept}
use Rattle.short_proofs.proofs.differences.unless_halves.Goals as goal

pub returns : goal.returns
returns c =
    let s = c.args.theory.now in
    let d = mvd (attributes c.args.halves.half.lhs) (attributes c.args.halves.half.rhs) in
    let all = four_kept s d (λ (lifted widened : Bool) (u : Tree). (turned again : Bool) × (u ≡ tree_of_halves c.args.halves lifted widened turned again)) (tree_of c.args.deriv.value) (tree_of c.in_ok-one.one.value) (tree_of c.in_ok-two.two.value)
    (tree_of c.in_ok-three.three.value) (tree_of c.in_ok-four.four.value)
    c.in_ok-one.ensures.kept c.in_ok-one.ensures.short c.in_ok-two.ensures.kept c.in_ok-two.ensures.short
    c.in_ok-three.ensures.kept c.in_ok-three.ensures.short c.in_ok-four.ensures.kept c.in_ok-four.ensures.short in
    record { kept = all.0; short = all.1 }
