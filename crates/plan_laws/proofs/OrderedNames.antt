-- Names that are apart stay so in the order of a design, since being apart is the same both ways.
use Rattle.std.proofs.Common.{◌≡◌, ◌≢◌, ◌<◌, ◌+◌, ◌==◌, ℕ, zero, suc, ◌⊎◌, inl, inr, ⊎_elim, List, [], ◌∷◌, get_or, Option, Some, None, if◌then◌else◌, refl, subst, ◌∙◌, sym, arith}
use Rattle.std.specs.Prelude.{All, AllPairs, Contains}
use Rattle.std.proofs.lemmas.Bool.{cases_Bool, eqb-true}
use Rattle.std.proofs.lemmas.List.Elements.{All-contains, Contains-append_cases, Contains-get_or}
use Rattle.attr_sets.specs.Attributes.{Attributes}
use Rattle.dep_model.specs.Dependencies.{Dependency}
use Rattle.dep_model.proofs.ListLemmas.{Contains-head, Contains-later, Contains-cases}
use Rattle.dep_model.proofs.PairLemmas.{all_pairs_cons, first_pairs, later_pairs, pairs_append}
use Rattle.design_order.specs.Order.{AreNamesInOrder, grouped_below, with_number}
use Rattle.plan_printer.specs.NamedPlans.{ApartFrom, AreApart, IsOwnName}
use Rattle.table_names.specs.TableNames.{GivenNames}
use Rattle.plan_printer.proofs.NameLemmas.{apart_turned as name_turned}

-- ---- apart both ways
apart_turned : (one other : Option (List ℕ)) → ApartFrom one other → ApartFrom other one
apart_turned None other apart = tt
apart_turned (Some a) None apart = refl
apart_turned (Some a) (Some b) apart = name_turned b a apart

-- ---- groups
-- one with a number beside it is the first, whose number that is, or a later one
with_cases : {X : Type 0} (number : ℕ) (x : X) (xs : List X) (m : ℕ) (ms : List ℕ) (y : X)
    → Contains (with_number number (x ∷ xs) (m ∷ ms)) y
    → ((y ≡ x) × (m ≡ number)) ⊎ Contains (with_number number xs ms) y
with_cases number x xs m ms y listed = elim (cases_Bool (m == number)) [
  | inl same ↦
      let here : Contains (x ∷ with_number number xs ms) y =
      subst (λ b. Contains (if b then x ∷ with_number number xs ms else with_number number xs ms) y) same listed in
      ⊎_elim (λ first. inl (first, eqb-true m number same)) (λ later. inr later)
      (Contains-cases x (with_number number xs ms) y here)
  | inr other ↦
      inr (subst (λ b. Contains (if b then x ∷ with_number number xs ms else with_number number xs ms) y) other listed)
]

with_listed : {X : Type 0} (number : ℕ) (xs : List X) (ms : List ℕ) (y : X) → Contains (with_number number xs ms) y
    → Contains xs y
with_listed number [] ms y listed = listed
with_listed number (x ∷ xs) [] y listed = absurd (omega (arith, listed.1))
with_listed {X} number (x ∷ xs) (m ∷ ms) y listed = ⊎_elim
    (λ first. subst (λ (z : X). Contains (z ∷ xs) y) first.0 (Contains-head y xs))
    (λ later. Contains-later x xs y (with_listed number xs ms y later))
    (with_cases number x xs m ms y listed)

below_listed : {X : Type 0} (number : ℕ) (xs : List X) (ms : List ℕ) (y : X)
    → Contains (grouped_below number xs ms) y → Contains xs y
below_listed zero xs ms y listed = absurd (omega (arith, listed.1))
below_listed (suc number) xs ms y listed = ⊎_elim
    (λ before. below_listed number xs ms y before)
    (λ last. with_listed number xs ms y last)
    (Contains-append_cases (grouped_below number xs ms) (with_number number xs ms) y listed)

module _ {X : Type 0} (R : X → X → Type 0) (turned : (x y : X) → R x y → R y x) where
  with_pairs : (number : ℕ) (xs : List X) (ms : List ℕ) → AllPairs R xs → AllPairs R (with_number number xs ms)
  with_pairs number [] ms pairs = pairs
  with_pairs number (x ∷ xs) [] pairs = λ i j d before l. absurd (omega (arith, l))
  with_pairs number (x ∷ xs) (m ∷ ms) pairs =
      let rest = with_pairs number xs ms (later_pairs R x xs pairs) in
      elim (cases_Bool (m == number)) [
        | inl same ↦ rw same (all_pairs_cons R x (with_number number xs ms)
            (λ y listed. first_pairs R x xs y pairs (with_listed number xs ms y listed)) rest)
        | inr other ↦ rw other rest
      ]

  -- two with different numbers beside them
  across_numbers : (m n : ℕ) → m ≢ n → (xs : List X) (ms : List ℕ) → AllPairs R xs → (x y : X)
      → Contains (with_number m xs ms) x → Contains (with_number n xs ms) y → R x y
  across_numbers m n differ [] ms pairs x y in_first in_second = absurd (omega (arith, in_first.1))
  across_numbers m n differ (z ∷ xs) [] pairs x y in_first in_second = absurd (omega (arith, in_first.1))
  across_numbers m n differ (z ∷ xs) (k ∷ ms) pairs x y in_first in_second = ⊎_elim
      (λ first. ⊎_elim
      (λ second. absurd (differ (sym first.1 ∙ second.1)))
      (λ later. subst (λ (w : X). R w y) (sym first.0) (first_pairs R z xs y pairs (with_listed n xs ms y later)))
      (with_cases n z xs k ms y in_second))
      (λ earlier. ⊎_elim
      (λ second. turned y x (subst (λ (w : X). R w x) (sym second.0)
      (first_pairs R z xs x pairs (with_listed m xs ms x earlier))))
      (λ later. across_numbers m n differ xs ms (later_pairs R z xs pairs) x y earlier later)
      (with_cases n z xs k ms y in_second))
      (with_cases m z xs k ms x in_first)

  across_below : (below n : ℕ) → below < n + 1 → (xs : List X) (ms : List ℕ) → AllPairs R xs → (x y : X)
      → Contains (grouped_below below xs ms) x → Contains (with_number n xs ms) y → R x y
  across_below zero n low xs ms pairs x y in_first in_second = absurd (omega (arith, in_first.1))
  across_below (suc below) n low xs ms pairs x y in_first in_second = ⊎_elim
      (λ before. across_below below n (omega (arith, low)) xs ms pairs x y before in_second)
      (λ last. across_numbers below n (λ same. omega (arith, low, same)) xs ms pairs x y last in_second)
      (Contains-append_cases (grouped_below below xs ms) (with_number below xs ms) x in_first)

  below_pairs : (number : ℕ) (xs : List X) (ms : List ℕ) → AllPairs R xs → AllPairs R (grouped_below number xs ms)
  below_pairs zero xs ms pairs = λ i j d before l. absurd (omega (arith, l))
  below_pairs (suc number) xs ms pairs =
      pairs_append R (grouped_below number xs ms) (with_number number xs ms)
      (below_pairs number xs ms pairs) (with_pairs number xs ms pairs)
      (λ x y. across_below number number (omega arith) xs ms pairs x y)

-- ---- names
pub stay_apart : (n : ℕ) (ds : List Dependency) (plan : List Attributes) (names ordered : GivenNames)
    → AreNamesInOrder n ds plan names ordered → AreApart names → AreApart ordered
stay_apart n ds plan names ordered order apart = record {
  apart = subst (λ (l : GivenNames). AllPairs ApartFrom l) (sym order.grouped)
      (below_pairs ApartFrom apart_turned (n + 1) names order.counts apart.apart);
  own = subst (λ (l : GivenNames). All IsOwnName l) (sym order.grouped)
      (λ i d l. All-contains IsOwnName names (at i d) apart.own
      (below_listed (n + 1) names order.counts (at i d) (Contains-get_or (grouped_below (n + 1) names order.counts) i d l)));
}
  where
    at : ℕ → Option (List ℕ) → Option (List ℕ)
    at i d = get_or (grouped_below (n + 1) names order.counts) i d
