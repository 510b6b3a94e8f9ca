-- What is left to prove of `has_within`: that a round of its loop keeps the invariant, and what it answers at the end.
use Rattle.std.proofs.Common.{true≢false, sym, subst, ◌∙◌}
use Rattle.std.specs.Prelude.{All}
use Rattle.std.proofs.lemmas.List.{take_all}
use Rattle.std.proofs.lemmas.List.Elements.{All-contains, All-more}
use Rattle.attr_sets.specs.Attributes.{IsSubset}
use Rattle.attr_sets.specs.Sets.{attributes}
use Rattle.attr_sets.specs.declared.set.AttrSet.{AttrSet}
use Rattle.file_references.proofs.column_sets.has_within.Goals as goal

pub loop-other-preserved : goal.loop-other-preserved
loop-other-preserved c = record {
  none = All-more (λ (s : AttrSet). IsSubset (attributes s) (attributes c.args.set) → ⊥) c.args.sets.now c.loop-other.other-index _
      c.loop-other-test.true c.loop-other.invariant.none
      (λ within. true≢false (sym (c.is_subset.ensures.subset.1 within) ∙ c.if-is_subset.false));
}

pub returns : goal.returns
returns c =
    let none = subst (All (λ (s : AttrSet). IsSubset (attributes s) (attributes c.args.set) → ⊥))
    (take_all c.loop-other.other-index c.args.sets.now c.loop-other-test.false) c.loop-other.invariant.none in
    record {
      has = (
        λ no. absurd (true≢false (sym no)),
        λ (i, s, low, at, within). absurd (All-contains (λ (s : AttrSet). IsSubset (attributes s) (attributes c.args.set) → ⊥) c.args.sets.now s none (i, low, at) within),
      );
    }
