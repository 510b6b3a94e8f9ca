-- What is left to prove of `is_reduced`: its clause `reduced`, by `ListingLemmas`.
use Rattle.std.proofs.Common.{◌≡◌, ◌↔◌, true, sym, subst, ◌∙◌}
use Rattle.std.proofs.lemmas.Bool.{false≢true}
use Rattle.attr_sets.specs.Attributes.{Attributes, IsEmpty, IsSubset, below, difference, union}
use Rattle.attr_sets.specs.Sets.{attributes}
use Rattle.mvd_discovery.proofs.ListingLemmas.{negated, nothing_beyond}
use Rattle.mvd_discovery.proofs.reduced.is_reduced.Goals as goal
use Rattle.mvd_discovery.proofs.reduced.is_reduced.Goals.{After-is_subset}

-- nothing stands beside both sides exactly where all columns lie within them
no_rest : (c : After-is_subset) → (c.is_subset.result ≡ true) ↔ IsEmpty (difference (below c.args.counts.now.width) (union (attributes c.args.left) (attributes c.args.right)))
no_rest c =
    let both = union (attributes c.args.left) (attributes c.args.right) in
    let exact = subst (λ (z : Attributes). (c.is_subset.result ≡ true) ↔ IsSubset z both) c.full.ensures.members
    (subst (λ (z : Attributes). (c.is_subset.result ≡ true) ↔ IsSubset (attributes c.full.result) z) c.union.ensures.members c.is_subset.ensures.subset) in
    let means = nothing_beyond c.args.counts.now.width both in
    ((λ t. means.0 (exact.0 t)), (λ empty. exact.1 (means.1 empty)))

pub returns-then-is_subset : goal.returns-then-is_subset
returns-then-is_subset c = record {
  reduced = λ r are block. (
    (λ t. absurd (false≢true t)),
    (λ is. absurd (is.rest ((no_rest (goal.at.returns-then-is_subset c).After-is_subset).0 c.if-is_subset.true))),
  );
}

pub returns-then-obeys_functional : goal.returns-then-obeys_functional
returns-then-obeys_functional c = record {
  reduced = λ r are block. (
    (λ t. absurd (false≢true t)),
    (λ is. absurd (is.free ((c.obeys_functional.ensures.obeys r are).0 c.if-obeys_functional.true))),
  );
}

pub returns : goal.returns
returns c = record {
  reduced = λ r are block. negated c.holds_with_less.result _ _ (c.holds_with_less.ensures.holds r are)
      (λ never. record {
        left = c.requires.left;
        block = block;
        rest = λ empty. false≢true (sym c.if-is_subset.false ∙ (no_rest (goal.at.returns c).After-is_subset).1 empty);
        free = λ obeys. false≢true (sym c.if-obeys_functional.false ∙ (c.obeys_functional.ensures.obeys r are).1 obeys);
        short = λ a holds. never (a, holds);
      })
      (λ is found. is.short found.0 found.1);
}
