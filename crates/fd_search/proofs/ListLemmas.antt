-- The left sides of all attributes in one list, and their order once they are sorted.
use Rattle.std.proofs.Common.{inl, inr, ◌≡◌, ◌+◌, ◌*◌, ◌++◌, ◌<◌, ◌≤◌, ◌==◌, cond, nat_lt, ℕ, Bool, true, false, zero, suc, List, [], ◌∷◌, length, map, get_or, Less, Equal, Greater, refl, sym, ap, subst, ◌∙◌, arith}
use Rattle.std.specs.Prelude.{All, AllPairs, Contains, flat_map}
use Rattle.std.specs.List.{range_with_len}
use Rattle.std.specs.Ordering.{nat_cmp, is_lt, ordering_then}
use Rattle.std.specs.List.Sorted.{IsPermutation, IsSortedBy, IsNonDecreasingBy}
use Rattle.std.proofs.lemmas.Bool.{cases_lt, cases_order}
use Rattle.std.proofs.lemmas.Bool.Decides.{nat_tests}
use Rattle.std.proofs.lemmas.List.Concat.{flat_map-cons}
use Rattle.std.proofs.lemmas.List.Elements.{All-contains, All-head, All-map, All-tail, Contains-append_cases, Contains-append_left, Contains-append_right, Contains-get_or}
use Rattle.std.proofs.lemmas.List.FromFn.{length-range_with_len, get_or-range_with_len}
use Rattle.std.proofs.lemmas.List.Kept.{AllPairs-cons}
use Rattle.std.proofs.lemmas.List.Sorted.{All-permutation, Contains-permutation, IsNonDecreasingBy-from_all_adjacent}
use Rattle.attr_sets.specs.Attributes.{Attributes, IsBefore, only}
use Rattle.attr_sets.specs.Sets.{attributes}
use Rattle.attr_sets.specs.declared.set.AttrSet.{AttrSet}
use Rattle.attr_sets.specs.declared.set.TheConstants.{MOST_ATTRIBUTES}
use Rattle.attr_sets.proofs.AttributesLemmas.{attributes-at_number}
use Rattle.attr_sets.proofs.OrderLemmas.{IsBefore-irrefl, before_from_lt}
use Rattle.attr_sets.proofs.UpToLemmas.{only_before}
use Rattle.dep_model.specs.Dependencies.{fd}
use Rattle.dep_model.specs.Tuples.{Relation}
use Rattle.dep_model.proofs.ListLemmas.{All-members, Contains-flat_map, Contains-map, flat_map-member, map-member}
use Rattle.dep_model.proofs.PairLemmas.{first_pairs, later_pairs, no_pairs, pairs_append, pairs_map}
use Rattle.dep_model.proofs.PermutationLemmas.{AllPairs-permutation}
use Rattle.candidate_search.specs.Sides.{HasMinimal, rights_of}
use Rattle.candidate_search.specs.declared.side.Side.{Side}
use Rattle.fd_discovery.specs.Minimal.{IsMinimalWithin, Precedes}
use Rattle.fd_search.specs.Listing.{HasNumber, fd_of, pairs_of}
use Rattle.fd_search.specs.Small.{AreAllSmall, IsSmallFd, IsSmallWithin}

abbrev pub Pair : Type 0
Pair = AttrSet × ℕ

abbrev IsSmallPair : ℕ → ℕ → Relation → Pair → Type 0
IsSmallPair n most r p = IsSmallWithin n most r (attributes p.0) p.1

-- two pairs have not both one left side and one attribute
abbrev AreApart : Pair → Pair → Type 0
AreApart p q = attributes p.0 ≡ attributes q.0 → p.1 ≡ q.1 → ⊥

-- ---- the columns, ascending
pub range_within : (n : ℕ) → All (λ k. k < n) (range_with_len 0 n)
range_within n i d l =
    let short : i < n = omega (arith, l, length-range_with_len 0 n) in
    omega (arith, get_or-range_with_len 0 n i d short, short)

range_ascends : (n : ℕ) → AllPairs (λ a b. a < b) (range_with_len 0 n)
range_ascends n i j d before l =
    let short : j < n = omega (arith, l, length-range_with_len 0 n) in
    omega (arith, get_or-range_with_len 0 n i d (omega (arith, short, before)), get_or-range_with_len 0 n j d short, before)

range_has : (n k : ℕ) → k < n → Contains (range_with_len 0 n) k
range_has n k l = (k, omega (arith, l, length-range_with_len 0 n), get_or-range_with_len 0 n k k l ∙ omega arith)

-- ---- the left sides of all attributes
-- one side
side_small : (n most : ℕ) (r : Relation) (side : Side) → HasMinimal n most r side → (p : Pair)
    → Contains (pairs_of side) p → IsSmallPair n most r p × (p.1 ≡ side.right)
side_small n most r side has p listed =
    let (left, within, is) = map-member (λ (x : AttrSet). (x, side.right)) side.lefts.items p listed in
    let m = (has.minimal.exactly (attributes left)).0 (Contains-map attributes side.lefts.items left within) in
    let small : IsSmallPair n most r (left, side.right) = record { minimal = m.0; within_limit = m.1 } in
    (subst (IsSmallPair n most r) is small, sym (ap (λ (q : Pair). q.1) is))

side_apart : (lefts : List AttrSet) (a : ℕ) → AllPairs IsBefore (map attributes lefts)
    → AllPairs AreApart (map (λ left. (left, a)) lefts)
side_apart [] a ascending = no_pairs AreApart
side_apart (x ∷ xs) a ascending =
    AllPairs-cons AreApart (x, a) (map (λ left. (left, a)) xs)
    (All-map (AreApart (x, a)) (λ left. (left, a)) xs (All-members (λ (y : AttrSet). AreApart (x, a) (y, a)) xs
    (λ y listed same equal. IsBefore-irrefl (attributes y) (subst (λ (z : Attributes). IsBefore z (attributes y)) same
    (first_pairs IsBefore (attributes x) (map attributes xs) (attributes y) ascending (Contains-map attributes xs y listed))))))
    (side_apart xs a (later_pairs IsBefore (attributes x) (map attributes xs) ascending))

-- all sides
pairs_small : (n most : ℕ) (r : Relation) (sides : List Side) → All (HasMinimal n most r) sides
    → All (IsSmallPair n most r) (flat_map pairs_of sides)
pairs_small n most r sides are = All-members (IsSmallPair n most r) (flat_map pairs_of sides) (λ p listed.
    let (side, within, has) = flat_map-member pairs_of sides p listed in
    (side_small n most r side (All-contains (HasMinimal n most r) sides side are within) p has).0)

pairs_all : (n most : ℕ) (r : Relation) (sides : List Side) (x : Attributes) (a : ℕ) → All (HasMinimal n most r) sides
    → rights_of sides ≡ range_with_len 0 n → IsSmallWithin n most r x a
    → (p : Pair) × Contains (flat_map pairs_of sides) p × (fd_of p ≡ fd x (only a))
pairs_all n most r sides x a are rights small =
    let (side, within, right) = map-member (λ (s : Side). s.right) sides a
    (subst (λ (ks : List ℕ). Contains ks a) (sym rights) (range_has n a small.minimal.right)) in
    let has = All-contains (HasMinimal n most r) sides side are within in
    let (left, listed, is) = map-member attributes side.lefts.items x ((has.minimal.exactly x).1
    (subst (IsMinimalWithin n r x) (sym right) small.minimal, small.within_limit)) in (
      (left, side.right),
      Contains-flat_map pairs_of sides side (left, side.right) within
          (Contains-map (λ (s : AttrSet). (s, side.right)) side.lefts.items left listed),
      ap (λ (v : Attributes). fd v (only side.right)) is ∙ ap (λ (k : ℕ). fd x (only k)) right,
    )

pairs_apart : (n most : ℕ) (r : Relation) (sides : List Side) → All (HasMinimal n most r) sides
    → AllPairs (λ a b. a < b) (rights_of sides) → AllPairs AreApart (flat_map pairs_of sides)
pairs_apart n most r [] are ascend = no_pairs AreApart
pairs_apart n most r (side ∷ sides) are ascend =
    let has = All-head (HasMinimal n most r) side sides are in
    let rest = All-tail (HasMinimal n most r) side sides are in
    subst (AllPairs AreApart) (sym (flat_map-cons pairs_of side sides))
    (pairs_append AreApart (pairs_of side) (flat_map pairs_of sides) (side_apart side.lefts.items side.right has.minimal.ascending)
    (pairs_apart n most r sides rest (later_pairs (λ (a b : ℕ). a < b) side.right (rights_of sides) ascend))
    (λ p q here there same equal.
    let (other, within, holds) = flat_map-member pairs_of sides q there in
    let p_right = (side_small n most r side has p here).1 in
    let q_right = (side_small n most r other (All-contains (HasMinimal n most r) sides other rest within) q holds).1 in
    let less : side.right < other.right = first_pairs (λ (a b : ℕ). a < b) side.right (rights_of sides) other.right ascend
    (Contains-map (λ (s : Side). s.right) sides other within) in
    omega (arith, less, p_right, q_right, equal)))

-- ---- the sorted list
-- one number for both parts of a pair
abbrev key : Pair → ℕ
key p = p.0.0 * 128 + p.1

key_le : (x y : Pair) → x.1 < 128 → y.1 < 128
    → is_lt (ordering_then (nat_cmp x.0.0 y.0.0) (nat_cmp x.1 y.1)) ≡ false → key y ≤ key x
key_le x y x_low y_low h = elim (cases_order x.0.0 y.0.0) [
  | inl same ↦ elim (cases_lt x.1 y.1) [
    | inl less ↦ absurd (lower (nat_lt x.0.0 y.0.0) (x.0.0 == y.0.0) (nat_lt x.1 y.1) (grind (arith, nat_tests, same))
        (grind (arith, nat_tests, same)) (grind (arith, nat_tests, less)) h)
    | inr other ↦ omega (arith, same, other)
  ]
  | inr other ↦ elim other [
    | inl less ↦ absurd (first (nat_lt x.0.0 y.0.0) (grind (arith, nat_tests, less)) h)
    | inr more ↦ omega (arith, more, x_low, y_low)
  ]
]
  where
    first : (b : Bool) → b ≡ true
        → is_lt (ordering_then (cond b Less (cond (x.0.0 == y.0.0) Equal Greater)) (nat_cmp x.1 y.1)) ≡ false → ⊥
    first true e f = cc
    first false e f = cc

    lower : (b c d : Bool) → b ≡ false → c ≡ true → d ≡ true
        → is_lt (ordering_then (cond b Less (cond c Equal Greater)) (cond d Less (cond (x.1 == y.1) Equal Greater))) ≡ false
        → ⊥
    lower false true true e f g h = cc
    lower true c d e f g h = cc
    lower false false d e f g h = cc
    lower false true false e f g h = cc

keys_rise : (pairs : List Pair) → All (λ p. p.1 < 128) pairs
    → IsSortedBy (λ (x y : Pair). is_lt (ordering_then (nat_cmp x.0.0 y.0.0) (nat_cmp x.1 y.1))) pairs
    → IsNonDecreasingBy key pairs
keys_rise pairs low sorted =
    IsNonDecreasingBy-from_all_adjacent key pairs
    (λ k d l. key_le (get_or pairs (k + 1) d) (get_or pairs k d) (low (k + 1) d l) (low k d (omega (arith, l)))
    (sorted k d (omega arith) l))

pair_precedes : (x y : Pair) → AreApart x y → HasNumber y → x.1 < 128 → y.1 < 128 → key x ≤ key y
    → Precedes (fd_of x) (fd_of y)
pair_precedes x y apart fits x_low y_low rises = elim (cases_order x.0.0 y.0.0) [
  | inl same ↦
      let sets : attributes x.0 ≡ attributes y.0 = attributes-at_number x.0 y.0 same in
      inr (
        sets,
        only_before x.1 y.1 (elim (cases_order x.1 y.1) [
          | inl equal ↦ absurd (apart sets equal)
          | inr other ↦ elim other [ inl less ↦ less | inr more ↦ absurd (omega (arith, same, rises, more)) ]
        ]),
      )
  | inr other ↦ elim other [
    | inl less ↦ inl (before_from_lt x.0 y.0 fits less)
    | inr more ↦ absurd (omega (arith, more, rises, x_low, y_low))
  ]
]

module _ (n most : ℕ) (r : Relation) (sides : List Side) (pairs sorted : List Pair) (n_in : n ≤ MOST_ATTRIBUTES)
    (are : All (HasMinimal n most r) sides) (is : pairs ≡ flat_map pairs_of sides) (moved : IsPermutation pairs sorted) where
  small_pairs : All (IsSmallPair n most r) sorted
  small_pairs = All-permutation (IsSmallPair n most r) pairs sorted moved
      (subst (All (IsSmallPair n most r)) (sym is) (pairs_small n most r sides are))

  pub low_pairs : All (λ p. p.1 < MOST_ATTRIBUTES) sorted
  low_pairs i d l = omega (arith, (small_pairs i d l).minimal.right, n_in)

  module _ (rights : rights_of sides ≡ range_with_len 0 n) (numbers : All HasNumber pairs)
      (in_order : IsSortedBy (λ (x y : Pair). is_lt (ordering_then (nat_cmp x.0.0 y.0.0) (nat_cmp x.1 y.1))) sorted) where
    precede : AllPairs (λ x y. Precedes (fd_of x) (fd_of y)) sorted
    precede i j d before l =
        let ascend : AllPairs (λ a b. a < b) (rights_of sides) =
        subst (AllPairs (λ (a b : ℕ). a < b)) (sym rights) (range_ascends n) in
        let apart : AllPairs AreApart sorted =
        AllPairs-permutation AreApart (λ x y other same equal. other (sym same) (sym equal)) pairs sorted moved
        (subst (AllPairs AreApart) (sym is) (pairs_apart n most r sides are ascend)) in
        let here : i < length sorted = omega (arith, before, l) in
        pair_precedes (get_or sorted i d) (get_or sorted j d) (apart i j d before l)
        (All-permutation HasNumber pairs sorted moved numbers j d l) (low_pairs i d here) (low_pairs j d l)
        (keys_rise sorted low_pairs in_order i j d (omega (arith, before)) l)

    pub all_in_order : AreAllSmall n most r (map fd_of sorted)
    all_in_order = record {
      each = All-map (IsSmallFd n most r) fd_of sorted
          (λ i d l. let p = get_or sorted i d in (attributes p.0, p.1, refl, small_pairs i d l));
      all = λ x a small.
          let (p, listed, same) = pairs_all n most r sides x a are rights small in
          subst (Contains (map fd_of sorted)) same (Contains-map fd_of sorted p
          (Contains-permutation pairs sorted p moved (subst (λ (ps : List Pair). Contains ps p) (sym is) listed)));
      ascending = pairs_map Precedes fd_of sorted precede;
    }
