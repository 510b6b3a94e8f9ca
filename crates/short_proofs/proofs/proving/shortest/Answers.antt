-- What is left to prove of `shortest`: what was kept four times is kept, and no longer than any listed derivation.
use Rattle.std.proofs.Common.{ap, subst, ⊎_elim, arith}
use Rattle.attr_sets.specs.Sets.{attributes}
use Rattle.dep_model.specs.Dependencies.{mvd}
use Rattle.derivation.specs.Trees.{Tree, nodes}
use Rattle.derivation.specs.Derivs.{tree_of}
use Rattle.derivation.specs.Conclusions.{Proves}
use Rattle.short_proofs.proofs.KeptLemmas.{kept_further, kept_no_longer}
use Rattle.short_proofs.proofs.proving.shortest.Goals as goal

pub returns : goal.returns
returns c =
    let s = c.args.theory.now in
    let d = mvd (attributes c.args.lhs) (attributes c.args.rhs) in
    let t = tree_of c.args.deriv.value in
    let one = tree_of c.in_ok-shaped.shaped.value in
    let two = tree_of c.in_ok-chained.chained.value in
    let three = tree_of c.in_ok-rested.rested.value in
    let four = tree_of c.in_ok-joined.joined.value in
    let second = kept_no_longer s d one two c.in_ok-chained.ensures.kept in
    let third = kept_no_longer s d two three c.in_ok-rested.ensures.kept in
    let fourth = kept_no_longer s d three four c.in_ok-joined.ensures.kept in
    record {
      kept = kept_further s d t three four (kept_further s d t two three (kept_further s d t one two c.in_ok-shaped.ensures.kept c.in_ok-chained.ensures.kept) c.in_ok-rested.ensures.kept) c.in_ok-joined.ensures.kept;
      short = λ u listed proves. ⊎_elim
          (λ is. let le = c.in_ok-shaped.ensures.shapes u is proves in omega (arith, second, third, fourth, le))
          (λ others. ⊎_elim
          (λ is.
          let le = c.in_ok-chained.ensures.chains is.0 is.1 in
          let count = ap nodes is.2 in
          omega (arith, third, fourth, le, count))
          (λ rest. ⊎_elim
          (λ is.
          let le = c.in_ok-rested.ensures.chains is.0 is.2 is.1 (subst (λ (v : Tree). Proves s v d) is.3 proves) in
          let count = ap nodes is.3 in
          omega (arith, fourth, le, count))
          (λ is. c.in_ok-joined.ensures.short u is proves)
          rest)
          others)
          listed;
    }
