-- What is left to prove of `seek_pair`: its clause `sought`, by `found_first` and `found_second`.
use Rattle.std.proofs.Common.{⊎_elim, ap, ◌∙◌, arith}
use Rattle.dep_model.specs.Deps.{dependency_of}
use Rattle.derivation.specs.Trees.{pair, nodes}
use Rattle.derivation.specs.declared.deriv.Deriv.{Deriv}
use Rattle.derivation.specs.Derivs.{tree_of, pair_of}
use Rattle.derivation.proofs.ShorteningLemmas.{found_first, found_second}
use Rattle.derivation.proofs.shortening.seek_pair.Goals as goal

pub returns-then-nodes : goal.returns-then-nodes
returns-then-nodes c = record {
  sought = λ s t u left right.
      let one = rw c.in-Found-Found.is-0 at left in
      let other = rw c.in-Found-Found.is-1 at right in
      let count = λ (d : Deriv). nodes (tree_of d) in
      let a = c.nodes.ensures.count ∙ ap count c.deref.ensures in
      let b = c.nodes-in-Found-Found.ensures.count ∙ ap count c.deref-in-Found-Found.ensures in
      found_first s (pair_of c.args.rule) t u (dependency_of c.args.sought) (tree_of c.in-Found-Found.one.value) one
      (λ v inside proves. omega (arith, other.least v inside proves, c.if-nodes.true, a, b));
}

pub returns-in-Found-Found : goal.returns-in-Found-Found
returns-in-Found-Found c = record {
  sought = λ s t u left right.
      let one = rw c.in-Found-Found.is-0 at left in
      let other = rw c.in-Found-Found.is-1 at right in
      let count = λ (d : Deriv). nodes (tree_of d) in
      let a = c.nodes.ensures.count ∙ ap count c.deref.ensures in
      let b = c.nodes-in-Found-Found.ensures.count ∙ ap count c.deref-in-Found-Found.ensures in
      found_second s (pair_of c.args.rule) t u (dependency_of c.args.sought) (tree_of c.in-Found-Found.other.value) other
      (λ v inside proves. omega (arith, one.least v inside proves, c.if-nodes.false, a, b));
}

pub returns-in-Found-Whole : goal.returns-in-Found-Whole
returns-in-Found-Whole c = record {
  sought = λ s t u left right.
      let one = rw c.in-Found-Whole.is-0 at left in
      let other = rw c.in-Found-Whole.is-1 at right in
      found_first s (pair_of c.args.rule) t u (dependency_of c.args.sought) (tree_of c.in-Found-Whole.one.value) one
      (λ v inside proves. absurd (other.1 v inside proves));
}

pub returns-in-Whole-Found : goal.returns-in-Whole-Found
returns-in-Whole-Found c = record {
  sought = λ s t u left right.
      let one = rw c.in-Whole-Found.is-0 at left in
      let other = rw c.in-Whole-Found.is-1 at right in
      found_second s (pair_of c.args.rule) t u (dependency_of c.args.sought) (tree_of c.in-Whole-Found.other.value) other
      (λ v inside proves. absurd (one.1 v inside proves));
}

pub returns : goal.returns
returns c = record {
  sought = λ s t u left right.
      let one = rw c.in-Whole-Whole.is-0 at left in
      let other = rw c.in-Whole-Whole.is-1 at right in
      c.seek_root.ensures.sought s (pair (pair_of c.args.rule) t u) (c.conclude_pair.ensures.concluded s t u one.0 other.0)
      (λ v below proves. ⊎_elim (λ first. one.1 v first proves) (λ second. other.1 v second proves) below);
}
