-- What is left to prove of `first_intersecting`: its clauses `none` and `first` and that a round of
-- its loop keeps the invariant.
use Rattle.std.proofs.Common.{◌≡◌, ℕ, ◌<◌, length, get_or, ◌+◌, List, refl, sym, ◌∙◌, inl, inr, subst, ap, arith}
use Rattle.std.proofs.lemmas.Bool.{true≢false, false≢true, cases_eq}
use Rattle.std.proofs.lemmas.List.{get_or_default}
use Rattle.attr_sets.specs.Attributes.{Intersects}
use Rattle.attr_sets.specs.declared.set.AttrSet.{AttrSet}
use Rattle.attr_sets.specs.Sets.{attributes}
use Rattle.dep_basis.proofs.deciding.first_intersecting.Goals as goal
use Rattle.dep_basis.proofs.deciding.first_intersecting.Goals.{else-intersects-via-then-intersects+else-intersects-2, else-intersects-via-else-intersects}

-- p intersects two sets
abbrev IntersectsBoth : AttrSet → AttrSet → AttrSet → Type 0
IntersectsBoth one other p = Intersects (attributes p) (attributes one) × Intersects (attributes p) (attributes other)

-- none of the first i sets intersects both, nor does the next
none_more : (blocks : List AttrSet) (one other zero : AttrSet) (i : ℕ) → i < length blocks
    → ((j : ℕ) (d : AttrSet) → j < i → IntersectsBoth one other (get_or blocks j d) → ⊥)
    → (IntersectsBoth one other (get_or blocks i zero) → ⊥)
    → (j : ℕ) (d : AttrSet) → j < i + 1 → IntersectsBoth one other (get_or blocks j d) → ⊥
none_more blocks one other zero i short before next j d lt both = elim (cases_eq j i) [
  | inl same ↦
      let at_i : get_or blocks j d ≡ get_or blocks i zero = ap (λ (k : ℕ). get_or blocks k d) same ∙ get_or_default blocks i d zero short in
      next (subst (IntersectsBoth one other) at_i both)
  | inr differ ↦ before j d (omega arith) both
]

pub loop-block-preserved : goal.loop-block-preserved
loop-block-preserved c =
    none_more c.args.blocks.now c.args.one c.args.other (record { 0 = 0 }) c.loop-block.block-index c.loop-block-test.true c.loop-block.invariant
    (λ both. elim c.else-intersects.branch [
      | else-intersects-via-then-intersects+else-intersects-2 w ↦ false≢true (sym w.if-intersects-2.false ∙ w.intersects-then-intersects.ensures.intersects.1 both.1)
      | else-intersects-via-else-intersects w ↦ false≢true (sym w.if-intersects.false ∙ c.intersects.ensures.intersects.1 both.0)
    ])

pub returns-then-intersects-2 : goal.returns-then-intersects-2
returns-then-intersects-2 c =
    let zero : AttrSet = record { 0 = 0 } in
    let i = c.loop-block.block-index in
    let both : IntersectsBoth c.args.one c.args.other (get_or c.args.blocks.now i zero) = (c.if-intersects.ensures.intersects.0 refl, c.if-intersects-2.ensures.intersects.0 refl) in
    record {
      none = ((λ e. absurd (true≢false e)), (λ all. absurd (all i zero c.loop-block-test.true both)));
      first = record { position = i; short = c.loop-block-test.true; is = get_or_default c.args.blocks.now i (get_or c.args.blocks.now i zero) zero c.loop-block-test.true; holds = both; first = c.loop-block.invariant };
    }

pub returns : goal.returns
returns c = record {
  none = ((λ _ k d l. c.loop-block.invariant k d (omega arith)), (λ _. refl));
  first = tt;
}
