-- The search for the block with one attribute: of the sets that have it and lie within some blocks together, the first
-- that is obeyed is the block.
use Rattle.std.proofs.Common.{◌≡◌, ◌<◌, ◌⊎◌, ◌==◌, ℕ, true, false, refl, sym, ap, subst, ◌∙◌, inl, inr, ⊎_elim, arith}
use mathlib.Core.Path.{fun_ext}
use Rattle.std.proofs.lemmas.Bool.{cases_Bool, cases_eq, true≢false}
use Rattle.std.proofs.lemmas.Bool.Decides.{nat_tests}
use Rattle.attr_sets.specs.Attributes.{Attributes, IsBefore, IsFirstFrom, IsNextSubset, IsSubset, below, difference, none, only, union}
use Rattle.attr_sets.proofs.AttributesLemmas.{same_at, same_from_within, tell_empty}
use Rattle.attr_sets.proofs.OrderLemmas.{next_subset-before, none-first, tell_before}
use Rattle.dep_model.specs.Dependencies.{ObeysMvd}
use Rattle.dep_model.specs.Tuples.{Relation}
use Rattle.mvd_laws.specs.Reduced.{IsBlockOfRows, IsPartOfRows}
use Rattle.mvd_laws.proofs.BlockLemmas.{mvd_difference}

-- a subset comes before, or is the same
subset_before : (n : ℕ) (x y : Attributes) → IsSubset y (below n) → IsSubset x y → (x ≡ y) ⊎ IsBefore x y
subset_before n x y low inside = elim (tell_before n x y (λ k m. low k (inside k m)) low) [
  | inl same ↦ inl same
  | inr other ↦ elim other [
    | inl before ↦ inr before
    | inr back ↦ absurd (true≢false (sym (inside back.0 back.2) ∙ back.1))
  ]
]

-- of the sets before one none is obeyed together with an attribute
abbrev pub IsNoneBefore : ℕ → Relation → Attributes → Attributes → ℕ → Attributes → Type 0
IsNoneBefore n r x blocks first part =
    (z : Attributes) → IsSubset z (difference blocks (only first)) → IsBefore z part → ObeysMvd (below n) x (union z (only first)) r → ⊥

module _ (n : ℕ) (r : Relation) (x blocks : Attributes) (first : ℕ) (whole : IsPartOfRows n r x blocks) (begins : blocks first ≡ true) where
  others_in : IsSubset (difference blocks (only first)) (below n)
  others_in k m = whole.within k (grind (arith, m))

  pub none_first : IsNoneBefore n r x blocks first none
  none_first z inside before = absurd (none-first z before)

  pub none_next : (part next : Attributes) → IsSubset part (difference blocks (only first)) → IsNextSubset (difference blocks (only first)) part next → IsNoneBefore n r x blocks first part
      → (ObeysMvd (below n) x (union part (only first)) r → ⊥) → IsNoneBefore n r x blocks first next
  none_next part next part_in is before not z inside earlier obeys =
      elim (next_subset-before n (difference blocks (only first)) part next z others_in part_in is inside earlier) [
        | inl same ↦ not (subst (λ (w : Attributes). ObeysMvd (below n) x (union w (only first)) r) same obeys)
        | inr ahead ↦ before z inside ahead obeys
      ]

  -- ---- the first that is obeyed
  module _ (part : Attributes) (part_in : IsSubset part (difference blocks (only first))) (before : IsNoneBefore n r x blocks first part)
      (obeys : ObeysMvd (below n) x (union part (only first)) r) where
    abbrev block : Attributes
    block = union part (only first)

    in_blocks : (k : ℕ) → block k ≡ true → blocks k ≡ true
    in_blocks k m = elim (cases_eq k first) [
      | inl same ↦ ap blocks same ∙ begins
      | inr other ↦ from k (part_in k (grind (arith, nat_tests, m, other)))
    ]
      where
        from : (k : ℕ) → difference blocks (only first) k ≡ true → blocks k ≡ true
        from k h = grind (arith, h)

    not_first : (k : ℕ) → part k ≡ true → (k == first) ≡ false
    not_first k m = from k (part_in k m)
      where
        from : (k : ℕ) → difference blocks (only first) k ≡ true → (k == first) ≡ false
        from k h = grind (arith, h)

    has_first : block first ≡ true
    has_first = grind (arith, nat_tests)

    is_part : IsPartOfRows n r x block
    is_part = record {
      within = λ k m. whole.within k (in_blocks k m);
      outside = λ k m. whole.outside k (in_blocks k m);
      not_empty = λ empty. true≢false (sym has_first ∙ empty first);
      obeyed = obeys;
    }

    -- of a set with the attribute within the block, what it has beyond the attribute is all of the rest
    all_of_rest : (w z : Attributes) → IsSubset w part → union w (only first) ≡ z → ObeysMvd (below n) x z r → w ≡ part
    all_of_rest w z inside is z_obeys = elim (subset_before n w part (λ k m. others_in k (part_in k m)) inside) [
      | inl same ↦ same
      | inr earlier ↦ absurd (before w (λ k m. part_in k (inside k m)) earlier (subst (λ (v : Attributes). ObeysMvd (below n) x v r) (sym is) z_obeys))
    ]

    back : (z : Attributes) (k : ℕ) → z first ≡ true → union (difference z (only first)) (only first) k ≡ z k
    back z k member = elim (cases_eq k first) [
      | inl same ↦ grind (arith, nat_tests, same, ap z same, member)
      | inr other ↦ grind (arith, nat_tests, other)
    ]

    -- what lies within the block, less the attribute, lies within the rest
    less_in : (z : Attributes) → IsSubset z block → IsSubset (difference z (only first)) part
    less_in z inside k m = elim (cases_eq k first) [
      | inl same ↦ absurd (true≢false (sym m ∙ gone same))
      | inr other ↦ from other (inside k (grind (arith, m)))
    ]
      where
        gone : k ≡ first → difference z (only first) k ≡ false
        gone same = grind (arith, nat_tests, same)

        from : (k ≡ first → ⊥) → block k ≡ true → part k ≡ true
        from other h = grind (arith, nat_tests, h, other)

    holds_all : (z : Attributes) → IsPartOfRows n r x z → IsSubset z block → z first ≡ true → IsSubset block z
    holds_all z is inside member =
        let same = all_of_rest (difference z (only first)) z (less_in z inside) (fun_ext (λ k. back z k member)) is.obeyed in
        λ k m. elim (cases_eq k first) [
          | inl at ↦ ap z at ∙ member
          | inr other ↦ from k (same_at same k ∙ grind (arith, nat_tests, m, other))
        ]
      where
        from : (k : ℕ) → difference z (only first) k ≡ true → z k ≡ true
        from k h = grind (arith, h)

    lacks_none : (z : Attributes) → IsPartOfRows n r x z → IsSubset z block → z first ≡ false → ⊥
    lacks_none z is inside out =
        let rest_obeys = mvd_difference n x block z r is_part.within is_part.outside obeys is.obeyed in
        let has : difference block z first ≡ true = grind (arith, nat_tests, out) in
        let same = all_of_rest (difference (difference block z) (only first)) (difference block z) (less_in (difference block z) (λ k m. grind (arith, m)))
        (fun_ext (λ k. back (difference block z) k has)) rest_obeys in
        ⊎_elim
        (λ some. at some.0 some.2 (inside some.0 some.2) (same_at same some.0))
        (λ empty. is.not_empty empty)
        (tell_empty n z is.within)
      where
        at : (k : ℕ) → z k ≡ true → block k ≡ true → difference (difference block z) (only first) k ≡ part k → ⊥
        at k m in_block e = elim (cases_eq k first) [
          | inl same ↦ true≢false (sym m ∙ ap z same ∙ out)
          | inr other ↦
              let in_part : part k ≡ true = grind (arith, nat_tests, in_block, other) in
              true≢false (sym in_part ∙ sym e ∙ grind (arith, m))
        ]

    pub is_block : IsBlockOfRows n r x (union part (only first))
    is_block = record {
      part = is_part;
      minimal = λ z is inside. elim (cases_Bool (z first)) [
        | inl member ↦ holds_all z is inside member
        | inr out ↦ absurd (lacks_none z is inside out)
      ];
    }

    pub block_within : IsSubset (union part (only first)) blocks
    block_within k m = in_blocks k m

    pub block_member : union part (only first) first ≡ true
    block_member = has_first

  -- all of the rest is obeyed
  pub last_obeyed : (part : Attributes) → part ≡ difference blocks (only first) → ObeysMvd (below n) x (union part (only first)) r
  last_obeyed part same =
      subst (λ (w : Attributes). ObeysMvd (below n) x w r) (sym (ap (λ (v : Attributes). union v (only first)) same ∙ fun_ext (λ k. back k))) whole.obeyed
    where
      back : (k : ℕ) → union (difference blocks (only first)) (only first) k ≡ blocks k
      back k = elim (cases_eq k first) [
        | inl at ↦ grind (arith, nat_tests, at, ap blocks at, begins)
        | inr other ↦ grind (arith, nat_tests, other)
      ]
