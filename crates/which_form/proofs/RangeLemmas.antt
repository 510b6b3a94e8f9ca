-- The keys of a scheme by functional dependencies: what is in every key, and what is in none.
use Rattle.std.proofs.Common.{◌≡◌, ℕ, ◌↔◌, true, false, List, sym, ap, ◌∙◌, inl, inr, arith}
use Rattle.std.proofs.lemmas.Bool.{true≢false, cases_Bool, cases_eq, ltb-true}
use Rattle.std.proofs.lemmas.Bool.Decides.{nat_tests}
use Rattle.attr_sets.specs.Attributes.{Attributes, below, only, union, intersection, difference, IsSubset, Disjoint}
use Rattle.attr_sets.proofs.AttributesLemmas.{same_at}
use Rattle.dep_model.specs.Dependencies.{Dependency, fd}
use Rattle.dep_model.specs.Implication.{Implies}
use Rattle.dep_model.specs.Keys.{IsSuperkey, IsKey, InClosure}
use Rattle.dep_model.proofs.RuleLemmas.{reflexivity_obeyed, transitivity_obeyed, fd_weaker_obeyed}
use Rattle.dep_model.proofs.KeyLemmas.{superkey-from, fd_on-to}
use Rattle.fd_closure.proofs.ClosureLemmas.{fd_each-to, fd_each-from}
use Rattle.key_listing.specs.Narrowing.{IsInEveryKey}
use Rattle.key_listing.proofs.NarrowingLemmas.{in_every_key_in_superkey}
use Rattle.normal_forms.specs.Adding.{AddOnlyThemselves}
use Rattle.normal_forms.proofs.AddedLemmas.{closure_member}
use Rattle.normal_forms.proofs.ViolationLemmas.{superkey_stable}

-- a key determines none of its attributes by the others
pub irredundant : (n : ℕ) (ds : List Dependency) (scheme k : Attributes) (a : ℕ) → IsKey n ds scheme k → k a ≡ true
    → Implies n ds (fd (difference k (only a)) (only a)) → ⊥
irredundant n ds scheme k a key member implied =
    true≢false (sym (key.minimal rest rest_in (superkey-from n ds scheme rest (λ j m. key.superkey.within.0 j (rest_in j m)) whole) a member) ∙ grind (arith, nat_tests))
  where
    rest : Attributes
    rest = difference k (only a)

    rest_in : IsSubset rest k
    rest_in j m = grind (arith, m)

    each : (b : ℕ) → k b ≡ true → Implies n ds (fd rest (only b))
    each b m = elim (cases_eq b a) [
      | inl same ↦ λ r legal. fd_weaker_obeyed rest (only a) rest (only b) r (λ j h. h) (λ j e. grind (arith, nat_tests, e, same)) (implied r legal)
      | inr other ↦ λ r legal. reflexivity_obeyed rest (only b) r (λ j e. grind (arith, nat_tests, e, other, m))
    ]

    whole : Implies n ds (fd rest scheme)
    whole r legal =
        transitivity_obeyed rest k scheme r (fd_each-from n ds rest k each r legal) (fd_on-to n ds scheme k scheme key.superkey r legal)

-- what a superkey determines
pub superkey_at : (n : ℕ) (ds : List Dependency) (scheme x : Attributes) (a : ℕ) → IsSubset scheme (below n) → IsSuperkey n ds scheme x
    → scheme a ≡ true → InClosure n ds x a
superkey_at n ds scheme x a low superkey member =
    (ltb-true a n (low a member), fd_each-to n ds x scheme (fd_on-to n ds scheme x scheme superkey) a member)

module _ (n : ℕ) (ds : List Dependency) (scheme sides least closed varying : Attributes) (low : IsSubset scheme (below n))
    (added : AddOnlyThemselves n ds scheme sides) (in_every : (a : ℕ) → (least a ≡ true) ↔ IsInEveryKey n ds scheme a)
    (exact : (a : ℕ) → (closed a ≡ true) ↔ InClosure n ds least a) (is : varying ≡ difference sides closed) where
  pub least_in : IsSubset least scheme
  least_in a m = ((in_every a).0 m).member

  pub least_in_superkeys : (x : Attributes) → IsSuperkey n ds scheme x → IsSubset least x
  least_in_superkeys x superkey a m = in_every_key_in_superkey n ds scheme x a ((in_every a).0 m) superkey

  pub varying_apart : Disjoint varying least
  varying_apart a m = elim (cases_Bool (least a)) [
    | inl there ↦
        let inside = (exact a).1 (closure_member n ds least a (λ k h. low k (least_in k h)) there) in
        absurd (true≢false (sym m ∙ same_at is a ∙ grind (arith, inside)))
    | inr out ↦ out
  ]

  module _ (k : Attributes) (a : ℕ) (key : IsKey n ds scheme k) (member : k a ≡ true) (not_least : least a ≡ false) where
    abbrev rest : Attributes
    rest = difference k (only a)

    -- what the least attributes determine is spare
    by_least : closed a ≡ true → Implies n ds (fd rest (only a))
    by_least determined r legal =
        fd_weaker_obeyed least (only a) rest (only a) r beside (λ j h. h) (((exact a).0 determined).1 r legal)
      where
        beside : IsSubset least rest
        beside j m = elim (cases_eq j a) [
          | inl same ↦ absurd (true≢false (sym m ∙ ap least same ∙ not_least))
          | inr other ↦ let there = least_in_superkeys k key.superkey j m in grind (arith, nat_tests, there, other)
        ]

    module _ (no_side : sides a ≡ false) where
      abbrev others : Attributes
      others = difference scheme (only a)

      a_in : scheme a ≡ true
      a_in = key.superkey.within.0 a member

      others_superkey : IsSuperkey n ds scheme others
      others_superkey = superkey_stable n ds scheme others (λ j m. grind (arith, m))
          (λ none. true≢false (sym ((in_every a).1 (record { member = a_in; others = none })) ∙ not_least))

      -- the sides determine it
      by_sides : InClosure n ds (intersection others sides) a
      by_sides = added others a (λ j m. grind (arith, m)) (superkey_at n ds scheme others a low others_superkey a_in) (grind (arith, nat_tests))

      beside_a : IsSubset (intersection k sides) rest
      beside_a j m = elim (cases_eq j a) [
        | inl same ↦ absurd (true≢false (sym (grind (arith, m)) ∙ ap sides same ∙ no_side))
        | inr other ↦ grind (arith, nat_tests, m, other)
      ]

      -- and the key, without the attribute, determines them
      side_implied : (b : ℕ) → intersection others sides b ≡ true → Implies n ds (fd rest (only b))
      side_implied b m = elim (cases_Bool (k b)) [
        | inl in_k ↦ λ r legal. reflexivity_obeyed rest (only b) r (λ j e. grind (arith, nat_tests, e, m, in_k))
        | inr out ↦
            let b_in : scheme b ≡ true = grind (arith, m) in
            let side = added k b key.superkey.within.0 (superkey_at n ds scheme k b low key.superkey b_in) out in
            λ r legal. fd_weaker_obeyed (intersection k sides) (only b) rest (only b) r beside_a (λ j h. h) (side.1 r legal)
      ]

      by_rest : Implies n ds (fd rest (only a))
      by_rest r legal =
          transitivity_obeyed rest (intersection others sides) (only a) r (fd_each-from n ds rest (intersection others sides) side_implied r legal)
          (by_sides.1 r legal)

  -- a key has no other attributes than the least and the varying ones
  pub keys_between : (k : Attributes) → IsKey n ds scheme k → IsSubset k (union least varying)
  keys_between k key a member = elim (cases_Bool (least a)) [
    | inl there ↦ grind (arith, there)
    | inr not_least ↦ elim (cases_Bool (varying a)) [
      | inl there ↦ grind (arith, there)
      | inr out ↦ elim (cases_Bool (closed a)) [
        | inl determined ↦ absurd (irredundant n ds scheme k a key member (by_least k a key member not_least determined))
        | inr free ↦ absurd (irredundant n ds scheme k a key member
            (by_rest k a key member not_least (grind (arith, same_at is a, out, free))))
      ]
    ]
  ]
