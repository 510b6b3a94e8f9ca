-- The numbers of the sets below a width.
use Rattle.std.proofs.Common.{◌≡◌, ◌+◌, ◌<◌, ◌≤◌, ◌^◌, ◌==◌, nat_lt, ℕ, true, false, refl, sym, ap, subst, ◌∙◌, inl, inr, arith}
use mathlib.Core.Path.{fun_ext}
use Rattle.std.proofs.lemmas.Bool.{cases_Bool, cases_order, eqb-true, lt-ltb, ltb-true, true≢false}
use Rattle.std.proofs.lemmas.Bool.Decides.{nat_tests}
use Rattle.attr_sets.specs.Attributes.{Attributes, IsBefore, IsSubset, below, only}
use Rattle.attr_sets.specs.Sets.{attributes}
use Rattle.attr_sets.specs.declared.set.AttrSet.{AttrSet}
use Rattle.attr_sets.specs.declared.set.TheConstants.{MOST_ATTRIBUTES}
use Rattle.attr_sets.proofs.BitLemmas.{has_bit-pow}
use Rattle.attr_sets.proofs.OrderLemmas.{before_from_lt, lt_from_before}

-- the set of the width alone, whose number is the first beyond those of the sets below it
beyond : ℕ → AttrSet
beyond n = record { 0 = 2 ^ n }

beyond-is : (n : ℕ) → n < MOST_ATTRIBUTES → attributes (beyond n) ≡ only n
unfolding beyond attributes
beyond-is n low = fun_ext (λ k. has_bit-pow MOST_ATTRIBUTES n k low)

pub number_from_within : (n : ℕ) (s : AttrSet) → n < MOST_ATTRIBUTES → s.0 < 2 ^ MOST_ATTRIBUTES → 2 ^ n < 2 ^ MOST_ATTRIBUTES
    → IsSubset (attributes s) (below n) → s.0 < 2 ^ n
unfolding beyond
number_from_within n s low fits room inside =
    lt_from_before s (beyond n) fits room (subst (IsBefore (attributes s)) (sym (beyond-is n low)) (
      n,
      outside n (λ h. omega (arith, ltb-true n n (inside n h))),
      grind (arith, nat_tests),
      λ j more. outside j (λ h. omega (arith, more, ltb-true j n (inside j h))) ∙ grind (arith, nat_tests, more),
    ))
  where
    outside : (j : ℕ) → (attributes s j ≡ true → ⊥) → attributes s j ≡ false
    outside j not = elim (cases_Bool (attributes s j)) [ inl h ↦ absurd (not h) | inr h ↦ h ]

pub within_from_number : (n : ℕ) (s : AttrSet) → n < MOST_ATTRIBUTES → 2 ^ n < 2 ^ MOST_ATTRIBUTES → s.0 < 2 ^ n → IsSubset (attributes s) (below n)
unfolding beyond
within_from_number n s low room less k m =
    let before : IsBefore (attributes s) (only n) = subst (IsBefore (attributes s)) (beyond-is n low) (before_from_lt s (beyond n) room less) in
    let at : before.0 ≡ n = eqb-true before.0 n before.2 in
    elim (cases_Bool (nat_lt k n)) [
      | inl under ↦ under
      | inr over ↦ absurd (above k m over (λ j. before.3 j) (before.1) at)
    ]
  where
    above : (k : ℕ) → attributes s k ≡ true → nat_lt k n ≡ false
        → {i : ℕ} → ((j : ℕ) → i < j → attributes s j ≡ only n j) → attributes s i ≡ false → i ≡ n → ⊥
    above k m over {i} after out at = elim (cases_Bool (k == n)) [
      | inl same ↦ true≢false (sym m ∙ ap (attributes s) (eqb-true k n same ∙ sym at) ∙ out)
      | inr other ↦
          let more : i < k = grind (arith, nat_tests, over, other, at) in
          true≢false (sym m ∙ after k more ∙ other)
    ]
