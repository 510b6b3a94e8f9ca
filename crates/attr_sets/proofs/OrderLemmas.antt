-- The order of sets by their numbers is the order by the greatest attribute in which they differ.
use Rattle.std.proofs.Common.{◌≡◌, ℕ, zero, suc, ◌/◌, ◌^◌, ◌<◌, ◌≤◌, Bool, true, false, List, get_or, pow-suc, refl, sym, ap, ◌∙◌, ◌⊎◌, inl, inr, ⊎_elim, arith}
use mathlib.Core.Path.{fun_ext}
use Rattle.std.specs.Int.{bit_at}
use Rattle.std.specs.Ordering.{nat_cmp, MatchOrdering}
use Rattle.std.specs.Cmp.{ranks}
use Rattle.std.specs.Prelude.{All, AllPairs, IsSorted}
use Rattle.std.specs.declared.cmp.Ordering.{Ordering}
use Rattle.std.specs.declared.cmp.Ordering.TheVariants.{Less, Equal, Greater}
use Rattle.attr_sets.proofs.AttributesLemmas.{attributes-at_number, same_at}
use Rattle.std.proofs.lemmas.Bool.{cases_lt, cases_eq, cases_order, true≢false}
use Rattle.std.proofs.lemmas.Bool.Decides.{nat_tests}
use Rattle.std.proofs.lemmas.List.Sorted.{IsNonDecreasingBy-from_sort}
use Rattle.std.proofs.lemmas.Nat.Bits.{bit_at_lowest, bit_at-suc, bit_at-lt, bit_at_above, same_from_bits}
use Rattle.attr_sets.specs.declared.set.AttrSet.{AttrSet}
use Rattle.attr_sets.specs.declared.set.TheConstants.{MOST_ATTRIBUTES}
use Rattle.attr_sets.specs.Attributes.{Attributes, below, only, none, union, difference, IsSubset, IsBefore, IsNextSubset, IsFirstFrom}
use Rattle.attr_sets.specs.Sets.{has_bit, attributes}

-- b has the greatest bit in which it differs from a
abbrev pub HasHigherBit : ℕ → ℕ → Type 0
HasHigherBit a b = (k : ℕ) × (bit_at a k ≡ 0) × (bit_at b k ≡ 1) × ((j : ℕ) → k < j → bit_at a j ≡ bit_at b j)

lt_from_bit : (k a b : ℕ) → bit_at a k ≡ 0 → bit_at b k ≡ 1 → ((j : ℕ) → k < j → bit_at a j ≡ bit_at b j) → a < b
lt_from_bit zero a b clear set above =
    let high : a / 2 ≡ b / 2 = same_from_bits (a / 2) (b / 2) (λ j. sym (bit_at-suc a j) ∙ above (suc j) (omega arith) ∙ bit_at-suc b j) in
    omega (arith, bit_at_lowest a, bit_at_lowest b)
lt_from_bit (suc k) a b clear set above =
    let half : a / 2 < b / 2 = lt_from_bit k (a / 2) (b / 2) (sym (bit_at-suc a k) ∙ clear) (sym (bit_at-suc b k) ∙ set) (λ j more. sym (bit_at-suc a j) ∙ above (suc j) (omega arith) ∙ bit_at-suc b j) in
    omega arith

-- bits above the lowest are those of the half
same_above-suc : (a b k : ℕ) → ((j : ℕ) → k < j → bit_at (a / 2) j ≡ bit_at (b / 2) j) → (j : ℕ) → suc k < j → bit_at a j ≡ bit_at b j
same_above-suc a b k same zero more = absurd (omega arith)
same_above-suc a b k same (suc j) more = bit_at-suc a j ∙ same j (omega arith) ∙ sym (bit_at-suc b j)

same_above-zero : (a b : ℕ) → a / 2 ≡ b / 2 → (j : ℕ) → 0 < j → bit_at a j ≡ bit_at b j
same_above-zero a b half zero more = absurd (omega arith)
same_above-zero a b half (suc j) more = bit_at-suc a j ∙ ap (λ n. bit_at n j) half ∙ sym (bit_at-suc b j)

higher_bit : (w a b : ℕ) → b < 2 ^ w → a < b → HasHigherBit a b
higher_bit zero a b fits less = absurd (omega arith)
higher_bit (suc w) a b fits less =
    ⊎_elim
    (λ (less_half : a / 2 < b / 2).
    let h = higher_bit w (a / 2) (b / 2) (omega (arith, pow-suc 2 w)) less_half in
    (suc h.0, bit_at-suc a h.0 ∙ h.1, bit_at-suc b h.0 ∙ h.2, same_above-suc a b h.0 h.3))
    (λ (not_less : b / 2 ≤ a / 2).
    let half : a / 2 ≡ b / 2 = omega arith in
    (0, omega (arith, bit_at_lowest a), omega (arith, bit_at_lowest b), same_above-zero a b half))
    (cases_lt (a / 2) (b / 2))

pub lt_from_before : (a b : AttrSet) → a.0 < 2 ^ MOST_ATTRIBUTES → b.0 < 2 ^ MOST_ATTRIBUTES → IsBefore (attributes a) (attributes b) → a.0 < b.0
unfolding attributes has_bit
lt_from_before a b a_fits b_fits before =
    let k = before.0 in
    lt_from_bit k a.0 b.0
    (grind (arith, nat_tests, before.1, before.2, bit_at-lt a.0 k))
    (grind (arith, nat_tests, before.2))
    (λ j more. ⊎_elim
    (λ (low : j < MOST_ATTRIBUTES). grind (arith, nat_tests, before.3 j more, bit_at-lt a.0 j, bit_at-lt b.0 j))
    (λ (high : MOST_ATTRIBUTES ≤ j). bit_at_above a.0 MOST_ATTRIBUTES j a_fits high ∙ sym (bit_at_above b.0 MOST_ATTRIBUTES j b_fits high))
    (cases_lt j MOST_ATTRIBUTES))

pub before_from_lt : (a b : AttrSet) → b.0 < 2 ^ MOST_ATTRIBUTES → a.0 < b.0 → IsBefore (attributes a) (attributes b)
unfolding attributes has_bit
before_from_lt a b b_fits less =
    let h = higher_bit MOST_ATTRIBUTES a.0 b.0 b_fits less in
    let k = h.0 in (
      k,
      grind (arith, nat_tests, h.1),
      ⊎_elim
          (λ (low : k < MOST_ATTRIBUTES). grind (arith, nat_tests, h.2))
          (λ (high : MOST_ATTRIBUTES ≤ k). absurd (omega (arith, h.2, bit_at_above b.0 MOST_ATTRIBUTES k b_fits high)))
          (cases_lt k MOST_ATTRIBUTES),
      λ j more. grind (arith, nat_tests, h.3 j more),
    )

in_each_order : {P Q R P' Q' R' : Type 0} (o : Ordering) → (P → P') → (Q → Q') → (R → R') → MatchOrdering o P Q R → MatchOrdering o P' Q' R'
in_each_order Less less equal greater h = less h
in_each_order Equal less equal greater h = equal h
in_each_order Greater less equal greater h = greater h

-- what `a.cmp(b)` says of two sets
pub cmp-order : (a b : AttrSet) → a.0 < 2 ^ MOST_ATTRIBUTES → b.0 < 2 ^ MOST_ATTRIBUTES
    → MatchOrdering (nat_cmp a.0 b.0) (IsBefore (attributes a) (attributes b)) (attributes a ≡ attributes b) (IsBefore (attributes b) (attributes a))
cmp-order a b a_fits b_fits =
    in_each_order (nat_cmp a.0 b.0) (before_from_lt a b b_fits) (attributes-at_number a b) (before_from_lt b a a_fits) (ranks a.0 b.0)

pub IsBefore-irrefl : (x : Attributes) → IsBefore x x → ⊥
IsBefore-irrefl x before = true≢false (sym before.2 ∙ before.1)

pub IsBefore-trans : (x y z : Attributes) → IsBefore x y → IsBefore y z → IsBefore x z
IsBefore-trans x y z first second =
    ⊎_elim
    (λ (same : first.0 ≡ second.0). absurd (true≢false (sym first.2 ∙ ap y same ∙ second.1)))
    (⊎_elim
    (λ (higher : first.0 < second.0). (second.0, first.3 second.0 higher ∙ second.1, second.2, λ j more. first.3 j (omega arith) ∙ second.3 j more))
    (λ (lower : second.0 < first.0). (first.0, first.1, sym (second.3 first.0 lower) ∙ first.2, λ j more. first.3 j more ∙ second.3 j (omega arith))))
    (cases_order first.0 second.0)

tell_equal : (a b : Bool) → (a ≡ b) ⊎ (((a ≡ false) × (b ≡ true)) ⊎ ((b ≡ false) × (a ≡ true)))
tell_equal true true = inl refl
tell_equal false false = inl refl
tell_equal false true = inr (inl (refl, refl))
tell_equal true false = inr (inr (refl, refl))

before_below : (n : ℕ) (x y : Attributes) → ((j : ℕ) → n ≤ j → x j ≡ y j) → (x ≡ y) ⊎ (IsBefore x y ⊎ IsBefore y x)
before_below zero x y same = inl (fun_ext (λ j. same j (omega arith)))
before_below (suc n) x y same =
    ⊎_elim
    (λ (here : x n ≡ y n). before_below n x y (λ j on. ⊎_elim (λ (first : j ≡ n). ap x first ∙ here ∙ sym (ap y first)) (λ (later : j ≡ n → ⊥). same j (omega arith)) (cases_eq j n)))
    (⊎_elim
    (λ (up : (x n ≡ false) × (y n ≡ true)). inr (inl (n, up.0, up.1, same)))
    (λ (down : (y n ≡ false) × (x n ≡ true)). inr (inr (n, down.0, down.1, λ j more. sym (same j more)))))
    (tell_equal (x n) (y n))

-- of two sets of attributes below n that are not the same, one comes before the other
pub tell_before : (n : ℕ) (x y : Attributes) → IsSubset x (below n) → IsSubset y (below n) → (x ≡ y) ⊎ (IsBefore x y ⊎ IsBefore y x)
tell_before n x y x_low y_low = before_below n x y (λ j on. grind (arith, nat_tests, x_low j, y_low j))

-- ---- the subsets of a set, one after the other

-- the first member of the set that x has not is added, and all below it is left out
pub next_subset-is : (whole x y : Attributes) (i : ℕ) → IsSubset x whole → IsFirstFrom (difference whole x) 0 i → y ≡ union (difference x (below i)) (only i) → IsNextSubset whole x y
next_subset-is whole x y i inside least is = record {
  within = λ k m. elim (cases_eq k i) [
    | inl same ↦ grind (arith, ap whole same, least.member)
    | inr other ↦ grind (arith, nat_tests, same_at is k, inside k)
  ];
  after = (
    i,
    grind (arith, least.member),
    grind (arith, nat_tests, same_at is i),
    λ j more. grind (arith, nat_tests, same_at is j),
  );
  first = λ z z_in before after. none_between z z_in before after;
}
  where
    same_above : (j : ℕ) → i < j → y j ≡ x j
    same_above j more = grind (arith, nat_tests, same_at is j)

    -- an attribute of z that x has not is i or a later one
    from_i : (z : Attributes) (k : ℕ) → IsSubset z whole → x k ≡ false → z k ≡ true → i ≤ k
    from_i z k z_in out member = ⊎_elim
        (λ (low : k < i). absurd (true≢false (sym (grind (arith, z_in k member, out)) ∙ least.least k (omega arith) low)))
        (λ (on : i ≤ k). on)
        (cases_lt k i)

    none_between : (z : Attributes) → IsSubset z whole → IsBefore x z → IsBefore z y → ⊥
    none_between z z_in before after =
        let on : i ≤ before.0 = from_i z before.0 z_in before.1 before.2 in
        ⊎_elim
        (λ (same : before.0 ≡ after.0). true≢false (sym before.2 ∙ ap z same ∙ after.1))
        (⊎_elim
        (λ (later : before.0 < after.0). true≢false (sym after.2 ∙ same_above after.0 (omega arith) ∙ before.3 after.0 later ∙ after.1))
        (λ (earlier : after.0 < before.0). ⊎_elim
        (λ (at_i : before.0 ≡ i). true≢false (sym after.2 ∙ grind (arith, nat_tests, same_at is after.0)))
        (λ (above_i : before.0 ≡ i → ⊥). true≢false (sym before.2 ∙ after.3 before.0 earlier ∙ same_above before.0 (omega arith) ∙ before.1))
        (cases_eq before.0 i)))
        (cases_order before.0 after.0)

-- a subset that comes before the next one is the last or comes before it
pub next_subset-before : (n : ℕ) (whole x y z : Attributes) → IsSubset whole (below n) → IsSubset x whole → IsNextSubset whole x y → IsSubset z whole → IsBefore z y → (z ≡ x) ⊎ IsBefore z x
next_subset-before n whole x y z low x_in next z_in before =
    ⊎_elim inl
    (⊎_elim inr (λ later. absurd (next.first z z_in later before)))
    (tell_before n z x (λ k m. low k (z_in k m)) (λ k m. low k (x_in k m)))

-- the empty set is the first
pub none-first : (z : Attributes) → IsBefore z none → ⊥
none-first z before = absurd (true≢false (sym before.2))

-- and the whole set the last
pub whole-last : (whole z : Attributes) → IsSubset z whole → IsBefore whole z → ⊥
whole-last whole z z_in before = true≢false (sym (z_in before.0 before.2) ∙ before.1)

-- different sets ascend once they are sorted by their numbers
pub sorted_ascend : (sets : List AttrSet) → AllPairs (λ s t. attributes s ≡ attributes t → ⊥) sets → All (λ (s : AttrSet). s.0 < 2 ^ MOST_ATTRIBUTES) sets
    → IsSorted (λ (s t : AttrSet). nat_cmp s.0 t.0) sets → AllPairs (λ s t. IsBefore (attributes s) (attributes t)) sets
sorted_ascend sets differ fit sorted i j d before l =
    let x = get_or sets i d in
    let y = get_or sets j d in
    let rises : x.0 ≤ y.0 = IsNonDecreasingBy-from_sort (λ (s : AttrSet). s.0) sets sorted i j d (omega (arith, before)) l in
    before_from_lt x y (fit j d l)
    (⊎_elim
    (λ (same : x.0 ≡ y.0). absurd (differ i j d before l (attributes-at_number x y same)))
    (λ (other : x.0 ≡ y.0 → ⊥). omega (arith, rises, other))
    (cases_eq x.0 y.0))
