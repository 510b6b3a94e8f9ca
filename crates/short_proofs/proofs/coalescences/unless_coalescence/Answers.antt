-- What is left to prove of `unless_coalescence`: what was kept twice is kept, and no longer than any of these.
use Rattle.std.proofs.Common.{◌≡◌, Bool}
use Rattle.attr_sets.specs.Sets.{attributes}
use Rattle.dep_model.specs.Dependencies.{fd}
use Rattle.derivation.specs.Trees.{Tree}
use Rattle.derivation.specs.Derivs.{tree_of}
use Rattle.short_proofs.specs.Shapes.{tree_of_merged}
use Rattle.short_proofs.proofs.PairLemmas.{two_kept}
use Rattle.short_proofs.proofs.coalescences.unless_coalescence.Goals as goal

pub returns : goal.returns
returns c =
    let s = c.args.theory.now in
    let d = fd (attributes c.args.merged.lhs) (attributes c.args.merged.rhs) in
    let all = two_kept s d (λ (lifted : Bool) (u : Tree). (cut again : Bool) × (u ≡ tree_of_merged c.args.merged lifted cut again))
    (tree_of c.args.deriv.value) (tree_of c.in_ok-plain.plain.value) (tree_of c.in_ok-lifted.lifted.value)
    c.in_ok-plain.ensures.kept c.in_ok-plain.ensures.short c.in_ok-lifted.ensures.kept c.in_ok-lifted.ensures.short in
    record { kept = all.0; short = all.1 }
