-- With few columns there are few candidates, since no two of them differ in one column alone, and few sets that lack
-- one of the columns.
use Rattle.std.proofs.Common.{inl, inr, ◌≡◌, ◌≢◌, ◌^◌, ◌<◌, ◌≤◌, ◌+◌, ℕ, true, false, List, ◌++◌, length, map, get_or, sym, ap, subst, ◌∙◌, length-append, arith}
use mathlib.Core.Path.{fun_ext}
use Rattle.std.specs.Prelude.{AllPairs, Contains}
use Rattle.std.proofs.Math.Pow.{pow_mono}
use Rattle.std.proofs.lemmas.Bool.{cases_Bool, cases_eq, lt-ltb, ltb-true, true≢false}
use Rattle.std.proofs.lemmas.Bool.Decides.{nat_tests}
use Rattle.std.proofs.lemmas.List.{length-map}
use Rattle.std.proofs.lemmas.List.Elements.{All-contains, Contains-append_cases, Contains-get_or}
use Rattle.attr_sets.specs.Attributes.{Attributes, IsSubset, below, difference, only, union}
use Rattle.dep_model.proofs.ListLemmas.{map-member}
use Rattle.dep_model.proofs.PairLemmas.{pairs_append, pairs_map}
use Rattle.candidate_sets.specs.Standing.{HasMoreCandidates, IsCandidate}
use Rattle.candidate_sets.specs.declared.refusal.TheConstants.{MOST_CANDIDATES}
use Rattle.candidate_sets.proofs.CountLemmas.{different_no_longer, length-subsets, subset_listed, subsets}

-- a set without a column
abbrev without : ℕ → Attributes → Attributes
without c x = difference x (only c)

-- sets that are alike without a column are alike at every other
alike_beside : (c : ℕ) (x y : Attributes) → without c x ≡ without c y → (k : ℕ) → (k ≡ c → ⊥) → x k ≡ y k
alike_beside c x y same k other =
    let here : without c x k ≡ without c y k = ap (λ (z : Attributes). z k) same in
    grind (arith, nat_tests, other, here)

-- where the second has the column if the first has it, the first lies within the second
lies_within : (c : ℕ) (x y : Attributes) → without c x ≡ without c y → (x c ≡ true → y c ≡ true) → IsSubset x y
lies_within c x y same column k member = elim (cases_eq k c) [
  | inl is ↦ ap y is ∙ column (sym (ap x is) ∙ member)
  | inr other ↦ sym (alike_beside c x y same k other) ∙ member
]

module _ (n most : ℕ) (es : List Attributes) (a : ℕ) (c : ℕ) where
  -- of two candidates that are alike without the column neither lies within the other, unless they are equal
  equal_without : (x y : Attributes) → IsCandidate n most es a x → IsCandidate n most es a y
      → without c x ≡ without c y → x ≡ y
  equal_without x y one other same = elim (cases_Bool (x c)) [
    | inr out ↦ of_smaller x y one other same (λ member. absurd (true≢false (sym member ∙ out)))
    | inl member ↦ sym (of_smaller y x other one (sym same) (λ _. member))
  ]
    where
      of_smaller : (v w : Attributes) → IsCandidate n most es a v → IsCandidate n most es a w
          → without c v ≡ without c w → (v c ≡ true → w c ≡ true) → v ≡ w
      of_smaller v w least greatest alike column = fun_ext at_each
        where
          inside : IsSubset v w
          inside = lies_within c v w alike column

          back : IsSubset w v
          back = greatest.minimal.minimal v inside least.minimal.stands

          at_each : (k : ℕ) → v k ≡ w k
          at_each k = elim (cases_Bool (v k)) [
            | inl member ↦ member ∙ sym (inside k member)
            | inr out ↦ elim (cases_Bool (w k)) [
              | inl there ↦ absurd (true≢false (sym (back k there) ∙ out))
              | inr lacks ↦ out ∙ sym lacks
            ]
          ]

  module _ (m : ℕ) (has : HasMoreCandidates n most es a m) (few : n ≤ c + 1) where
    is_one : (x : Attributes) → Contains has.sets x → IsCandidate n most es a x
    is_one x listed = All-contains (IsCandidate n most es a) has.sets x has.each listed

    still_differ : AllPairs (λ (x y : Attributes). without c x ≢ without c y) has.sets
    still_differ i j d before l same =
        let one : Attributes = get_or has.sets i d in
        let other : Attributes = get_or has.sets j d in
        has.differ i j d before l
        (equal_without one other (is_one one (Contains-get_or has.sets i d (omega (arith, before, l))))
        (is_one other (Contains-get_or has.sets j d l)) same)

    within : (x : Attributes) → Contains (map (without c) has.sets) x → IsSubset x (below c)
    within x listed k member =
        let (z, among, is) = map-member (without c) has.sets x listed in
        let here : without c z k ≡ true = ap (λ (v : Attributes). v k) is ∙ member in
        lt-ltb k c (omega (arith, few, ltb-true k n ((is_one z among).within k (of_set z k here)), apart z k here))
      where
        of_set : (z : Attributes) (k : ℕ) → without c z k ≡ true → z k ≡ true
        of_set z k h = grind (arith, h)

        apart : (z : Attributes) (k : ℕ) → without c z k ≡ true → k ≢ c
        apart z k h same = grind (arith, nat_tests, same, h)

    pub no_more : length has.sets ≤ 2 ^ c
    no_more =
        let short = different_no_longer (map (without c) has.sets) (subsets c)
        (pairs_map (λ (x y : Attributes). x ≢ y) (without c) has.sets still_differ)
        (λ x listed. subset_listed c x (within x listed)) in
        omega (arith, short, length-subsets c, length-map has.sets (without c))

pub few_have_few : (n most : ℕ) (es : List Attributes) (a : ℕ) → n ≤ 20 → HasMoreCandidates n most es a MOST_CANDIDATES → ⊥
few_have_few n most es a few has =
    let short : length has.sets ≤ 2 ^ 19 = no_more n most es a 19 MOST_CANDIDATES has (omega (arith, few)) in
    omega (arith, short, has.more)

-- ---- sets that lack a column
-- a set and one column more
abbrev with_column : ℕ → Attributes → Attributes
with_column a x = union x (only a)

has_column : (a : ℕ) (x : Attributes) → with_column a x a ≡ true
has_column a x = grind (arith, nat_tests)

-- sets without the column are told apart with it too
same_with : (a : ℕ) (x y : Attributes) → x a ≡ false → y a ≡ false → with_column a x ≡ with_column a y → x ≡ y
same_with a x y x_out y_out same = fun_ext at_each
  where
    at_each : (k : ℕ) → x k ≡ y k
    at_each k = elim (cases_eq k a) [
      | inl is ↦ ap x is ∙ x_out ∙ sym y_out ∙ ap y (sym is)
      | inr other ↦
          let here : with_column a x k ≡ with_column a y k = ap (λ (z : Attributes). z k) same in
          grind (arith, nat_tests, other, here)
    ]

-- different sets of n columns that lack one of them: with it they are others of the sets of n columns
module _ (n a : ℕ) (sets : List Attributes) (each : (x : Attributes) → Contains sets x → IsSubset x (below n) × (x a ≡ false)) (differ : AllPairs (λ (x y : Attributes). x ≢ y) sets) (inside : a < n) where
  with_differ : AllPairs (λ (x y : Attributes). with_column a x ≢ with_column a y) sets
  with_differ i j d before l same =
      let one : Attributes = get_or sets i d in
      let other : Attributes = get_or sets j d in
      differ i j d before l
      (same_with a one other (each one (Contains-get_or sets i d (omega (arith, before, l)))).1
      (each other (Contains-get_or sets j d l)).1 same)

  across : (x y : Attributes) → Contains sets x → Contains (map (with_column a) sets) y → x ≢ y
  across x y here there same =
      let (z, listed, is) = map-member (with_column a) sets y there in
      true≢false (sym (has_column a z) ∙ ap (λ (v : Attributes). v a) (is ∙ sym same) ∙ (each x here).1)

  all_within : (x : Attributes) → Contains (sets ++ map (with_column a) sets) x → IsSubset x (below n)
  all_within x listed = elim (Contains-append_cases sets (map (with_column a) sets) x listed) [
    | inl here ↦ (each x here).0
    | inr there ↦
        let (z, among, is) = map-member (with_column a) sets x there in
        subst (λ (v : Attributes). IsSubset v (below n)) is (more_within z (each z among).0)
  ]
    where
      more_within : (z : Attributes) → IsSubset z (below n) → IsSubset (with_column a z) (below n)
      more_within z low k member = elim (cases_eq k a) [
        | inl same ↦ lt-ltb k n (omega (arith, same, inside))
        | inr other ↦ low k (of_set k member other)
      ]
        where
          of_set : (k : ℕ) → with_column a z k ≡ true → (k ≡ a → ⊥) → z k ≡ true
          of_set k h other = grind (arith, nat_tests, other, h)

  pub twice_no_more : length sets + length sets ≤ 2 ^ n
  twice_no_more =
      let both : List Attributes = sets ++ map (with_column a) sets in
      let short : length both ≤ length (subsets n) = different_no_longer both (subsets n)
      (pairs_append (λ (x y : Attributes). x ≢ y) sets (map (with_column a) sets) differ
      (pairs_map (λ (x y : Attributes). x ≢ y) (with_column a) sets with_differ) across)
      (λ x listed. subset_listed n x (all_within x listed)) in
      omega (
        arith,
        short,
        length-subsets n,
        length-append sets (map (with_column a) sets),
        length-map sets (with_column a),
      )

pub few_without : (n a : ℕ) (sets : List Attributes)
    → ((x : Attributes) → Contains sets x → IsSubset x (below n) × (x a ≡ false))
    → AllPairs (λ (x y : Attributes). x ≢ y) sets → n ≤ 20 → a < n → length sets ≤ 2 ^ 19
few_without n a sets each differ few inside =
    let twice = twice_no_more n a sets each differ inside in
    let least : 2 ^ n ≤ 2 ^ 20 = pow_mono few in
    omega (arith, twice, least)
