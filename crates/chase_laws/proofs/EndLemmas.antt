-- The rounds end: each step by a functional dependency leaves fewer symbols in use, and no step brings a
-- symbol to an attribute.
use Rattle.std.proofs.Common.{◌≡◌, ℕ, ◌+◌, ◌-◌, ◌*◌, ◌<◌, ◌≤◌, zero, suc, Bool, true, false, cond, ◌⊎◌, List, [], ◌∷◌, length, get_or, refl, sym, ap, ◌∙◌, inl, inr, ⊎_elim, arith}
use Rattle.std.proofs.lemmas.Bool.{cases_Bool, cases_eq, true≢false, eqb-true, eq-eqb, or_cases, or_left, or_right, false_from_ne_true}
use Rattle.std.proofs.Math.Nat.{mul-le-mul_right}
use Rattle.std.proofs.lemmas.List.Elements.{Contains-get_or}
use Rattle.std.specs.Prelude.{Contains, AllPairs, nat_eq, ◌||◌}
use Rattle.attr_sets.specs.Attributes.{Attributes, union, IsSubset, count_below}
use Rattle.attr_sets.proofs.AttributesLemmas.{count_below-within, count_below-lt}
use Rattle.dep_model.specs.Dependencies.{Dependency}
use Rattle.dep_model.proofs.ListLemmas.{Contains-head, Contains-later}
use Rattle.chase_laws.specs.Tableaux.{SymbolRow, Tableau, SameTableau, symbol_at}
use Rattle.chase_laws.specs.Steps.{IsFdStep, IsFunctionalStep, LeadsIn, LeadsTo}
use Rattle.chase_laws.specs.Rounds.{IsMadeOf, IsNext}
use Rattle.chase_laws.proofs.TableauLemmas.{symbol_at-exchange_rows, symbol_after-hit, symbol_after-miss, symbol_after-other, cons_cases}
use Rattle.chase_laws.proofs.InvariantLemmas.{Each, HasLength, HasAtMost, over-functional, most-functional, fd_attribute_low, fd_came}
use Rattle.chase_laws.proofs.RoundLemmas.{differ_le}

-- whether a symbol stands at an attribute
pub in_use : Tableau → ℕ → Attributes
in_use [] a v = false
in_use (row ∷ t) a v = nat_eq (symbol_at row a) v || in_use t a v

in_use-true : (t : Tableau) (a v : ℕ) → in_use t a v ≡ true → (row : SymbolRow) × Contains t row × (symbol_at row a ≡ v)
unfolding in_use
in_use-true [] a v h = absurd (true≢false (sym h))
in_use-true (row ∷ t) a v h = ⊎_elim
    (λ here. (row, Contains-head row t, eqb-true (symbol_at row a) v here))
    (λ later. let w = in_use-true t a v later in (w.0, Contains-later row t w.0 w.1, w.2))
    (or_cases (nat_eq (symbol_at row a) v) (in_use t a v) h)

in_use-from : (t : Tableau) (a v : ℕ) (row : SymbolRow) → Contains t row → symbol_at row a ≡ v → in_use t a v ≡ true
unfolding in_use
in_use-from [] a v row h e = absurd (omega (arith, h.1))
in_use-from (p ∷ t) a v row h e = ⊎_elim
    (λ (same : p ≡ row). or_left (nat_eq (symbol_at p a) v) (in_use t a v) (eq-eqb (symbol_at p a) v (ap (λ (r : SymbolRow). symbol_at r a) same ∙ e)))
    (λ later. or_right (nat_eq (symbol_at p a) v) (in_use t a v) (in_use-from t a v row later e))
    (cons_cases p t row h)

-- how many symbols below a bound stand at the first n attributes
pub symbols_in_use : ℕ → ℕ → Tableau → ℕ
symbols_in_use zero bound t = 0
symbols_in_use (suc n) bound t = symbols_in_use n bound t + count_below (in_use t n) bound

symbols_in_use-le : (n bound : ℕ) (t s : Tableau) → ((a : ℕ) → IsSubset (in_use s a) (in_use t a)) → symbols_in_use n bound s ≤ symbols_in_use n bound t
unfolding symbols_in_use
symbols_in_use-le zero bound t s within = omega arith
symbols_in_use-le (suc n) bound t s within =
    let before = symbols_in_use-le n bound t s within in
    let here = count_below-within bound (in_use s n) (in_use t n) (within n) in
    omega (arith, before, here)

symbols_in_use-lt : (n bound : ℕ) (t s : Tableau) (a v : ℕ) → a < n → v < bound → ((a : ℕ) → IsSubset (in_use s a) (in_use t a)) → in_use s a v ≡ false → in_use t a v ≡ true → symbols_in_use n bound s < symbols_in_use n bound t
unfolding symbols_in_use
symbols_in_use-lt zero bound t s a v low small within gone was = absurd (omega arith)
symbols_in_use-lt (suc n) bound t s a v low small within gone was = elim (cases_eq a n) [
  | inl here ↦
      let before = symbols_in_use-le n bound t s within in
      let less = count_below-lt bound (in_use s n) (in_use t n) v (within n) small (ap (λ (k : ℕ). in_use s k v) (sym here) ∙ gone) (ap (λ (k : ℕ). in_use t k v) (sym here) ∙ was) in
      omega (arith, before, less)
  | inr other ↦
      let before = symbols_in_use-lt n bound t s a v (omega arith) small within gone was in
      let same = count_below-within bound (in_use s n) (in_use t n) (within n) in
      omega (arith, before, same)
]

same_within : (t s : Tableau) → SameTableau t s → (a : ℕ) → IsSubset (in_use s a) (in_use t a)
same_within t s same a v m = let w = in_use-true s a v m in in_use-from t a v w.0 ((same w.0).1 w.1) w.2

-- ---- a step by a functional dependency
module _ (n : ℕ) (x y : Attributes) (t s : Tableau) (over : Each (HasLength n) t) (step : IsFdStep x y t s) where
  step_within : (a : ℕ) → IsSubset (in_use s a) (in_use t a)
  step_within a v m =
      let former = symbol_at step.second step.attribute in
      let later = symbol_at step.first step.attribute in
      let w = in_use-true s a v m in
      let p = fd_came n x y t s over step w.0 w.1 in
      elim (cases_eq a step.attribute) [
        | inr other ↦ in_use-from t a v p.0 p.1 (sym (symbol_after-other step.attribute former later a (symbol_at p.0 a) other) ∙ sym (p.2 a) ∙ w.2)
        | inl here ↦ elim (cases_eq (symbol_at p.0 a) former) [
          | inr miss ↦ in_use-from t a v p.0 p.1 (sym (symbol_after-miss step.attribute former later a (symbol_at p.0 a) miss) ∙ sym (p.2 a) ∙ w.2)
          | inl hit ↦ in_use-from t a v step.first step.first_in (ap (λ (k : ℕ). symbol_at step.first k) here ∙ sym (symbol_after-hit step.attribute former later a (symbol_at p.0 a) here hit) ∙ sym (p.2 a) ∙ w.2)
        ]
      ]

  gone : in_use s step.attribute (symbol_at step.second step.attribute) ≡ false
  gone = false_from_ne_true (in_use s step.attribute (symbol_at step.second step.attribute)) (λ m.
      let a = step.attribute in
      let former = symbol_at step.second step.attribute in
      let later = symbol_at step.first step.attribute in
      let w = in_use-true s a former m in
      let p = fd_came n x y t s over step w.0 w.1 in
      elim (cases_eq (symbol_at p.0 a) former) [
        | inl hit ↦ let e : former ≡ later = sym w.2 ∙ p.2 a ∙ symbol_after-hit a former later a (symbol_at p.0 a) refl hit in absurd (omega (arith, e, step.differ))
        | inr miss ↦ miss (sym (symbol_after-miss a former later a (symbol_at p.0 a) miss) ∙ sym (p.2 a) ∙ w.2)
      ])

  step_lt : (bound : ℕ) → symbol_at step.second step.attribute < bound → symbols_in_use n bound s < symbols_in_use n bound t
  step_lt bound small = symbols_in_use-lt n bound t s step.attribute (symbol_at step.second step.attribute) (fd_attribute_low n x y t s over step) small step_within gone (in_use-from t step.attribute (symbol_at step.second step.attribute) step.second step.second_in refl)

-- no step, or fewer symbols in use after
pub leads_use : (n most : ℕ) (ds : List Dependency) (count : ℕ) (t s : Tableau) → Each (HasLength n) t → Each (HasAtMost most) t → LeadsIn (IsFunctionalStep ds) count t s
    → SameTableau t s ⊎ (symbols_in_use n (suc most) s < symbols_in_use n (suc most) t)
leads_use n most ds zero t s over low same = inl same
leads_use n most ds (suc count) t s over low leads =
    let m_over = over-functional n ds count t leads.0 leads.1 over in
    let m_low = most-functional most ds count t leads.0 leads.1 low in
    let step = leads.2.step in
    let less = step_lt n leads.2.lhs leads.2.rhs leads.0 s m_over step (suc most) (let e = m_low step.second step.second_in step.attribute in omega (arith, e)) in
    inr (⊎_elim
    (λ same. let le = symbols_in_use-le n (suc most) t leads.0 (same_within t leads.0 same) in omega (arith, less, le))
    (λ lt. omega (arith, less, lt))
    (leads_use n most ds count t leads.0 over low leads.1))

-- one step or more
pub more_use : (n most : ℕ) (ds : List Dependency) (count : ℕ) (t s : Tableau) → Each (HasLength n) t → Each (HasAtMost most) t → LeadsIn (IsFunctionalStep ds) (suc count) t s
    → symbols_in_use n (suc most) s < symbols_in_use n (suc most) t
more_use n most ds count t s over low leads =
    let m_over = over-functional n ds count t leads.0 leads.1 over in
    let m_low = most-functional most ds count t leads.0 leads.1 low in
    let step = leads.2.step in
    let less = step_lt n leads.2.lhs leads.2.rhs leads.0 s m_over step (suc most) (let e = m_low step.second step.second_in step.attribute in omega (arith, e)) in
    ⊎_elim
    (λ same. let le = symbols_in_use-le n (suc most) t leads.0 (same_within t leads.0 same) in omega (arith, less, le))
    (λ lt. omega (arith, less, lt))
    (leads_use n most ds count t leads.0 over low leads.1)

-- ---- the next tableau
next_within : (n : ℕ) (ds : List Dependency) (t s : Tableau) → IsNext n ds t s → Each (HasLength n) t → (a : ℕ) → a < n → IsSubset (in_use s a) (in_use t a)
next_within n ds t s next over a low v m =
    let w = in_use-true s a v m in
    ⊎_elim
    (λ old. in_use-from t a v w.0 old w.2)
    (λ (made : IsMadeOf n ds t w.0).
    let z = union made.lhs made.rhs in
    let is : cond (z a) (symbol_at made.first a) (symbol_at made.second a) ≡ v = sym (symbol_at-exchange_rows n z made.first made.second a low) ∙ ap (λ (r : SymbolRow). symbol_at r a) (sym made.row_is) ∙ w.2 in
    elim (cases_Bool (z a)) [
      | inl m' ↦ in_use-from t a v made.first made.first_in (ap (λ (b : Bool). cond b (symbol_at made.first a) (symbol_at made.second a)) (sym m') ∙ is)
      | inr out ↦ in_use-from t a v made.second made.second_in (ap (λ (b : Bool). cond b (symbol_at made.first a) (symbol_at made.second a)) (sym out) ∙ is)
    ])
    ((next w.0).0 w.1)

use_le_below : (n bound : ℕ) (t s : Tableau) → ((a : ℕ) → a < n → IsSubset (in_use s a) (in_use t a)) → symbols_in_use n bound s ≤ symbols_in_use n bound t
unfolding symbols_in_use
use_le_below zero bound t s within = omega arith
use_le_below (suc n) bound t s within =
    let before = use_le_below n bound t s (λ (a : ℕ) l. within a (omega arith)) in
    let here = count_below-within bound (in_use s n) (in_use t n) (within n (omega arith)) in
    omega (arith, before, here)

-- ---- what each round lowers
pub what_is_left : ℕ → ℕ → ℕ → Tableau → ℕ
what_is_left n most limit t = symbols_in_use n (suc most) t * (limit + 1) + (limit - length t)

weight_lt : (limit less more a b : ℕ) → less < more → less * (limit + 1) + (limit - a) < more * (limit + 1) + (limit - b)
weight_lt limit less more a b lt =
    let next : suc less ≤ more = omega (arith, lt) in
    let up : suc less * (limit + 1) ≤ more * (limit + 1) = mul-le-mul_right (limit + 1) next in
    let e : suc less * (limit + 1) ≡ less * (limit + 1) + (limit + 1) = omega arith in
    omega (arith, up, e)

weight_lt_same : (limit less more a b : ℕ) → less ≤ more → b < a → a ≤ limit → less * (limit + 1) + (limit - a) < more * (limit + 1) + (limit - b)
weight_lt_same limit less more a b le lt within_limit =
    let up : less * (limit + 1) ≤ more * (limit + 1) = mul-le-mul_right (limit + 1) le in
    omega (arith, up, lt, within_limit)

pub round_lowers : (n most limit : ℕ) (ds : List Dependency) (t s u : Tableau) → Each (HasLength n) t → Each (HasAtMost most) t → LeadsTo (IsFunctionalStep ds) t s → IsNext n ds s u
    → AllPairs (λ p q. p ≡ q → ⊥) t → length s < length u → length u ≤ limit → what_is_left n most limit u < what_is_left n most limit t
unfolding what_is_left
round_lowers n most limit ds t s u over low leads next differ grows within_limit =
    let s_over = over-functional n ds leads.0 t s leads.1 over in
    let u_le = use_le_below n (suc most) s u (next_within n ds s u next s_over) in
    ⊎_elim
    (λ same.
    let s_le = symbols_in_use-le n (suc most) t s (same_within t s same) in
    let rows = differ_le t s differ (λ (k : ℕ) (d : SymbolRow) l. (same (get_or t k d)).0 (Contains-get_or t k d l)) in
    weight_lt_same limit (symbols_in_use n (suc most) u) (symbols_in_use n (suc most) t) (length u) (length t) (omega (arith, u_le, s_le)) (omega (arith, rows, grows)) within_limit)
    (λ less. weight_lt limit (symbols_in_use n (suc most) u) (symbols_in_use n (suc most) t) (length u) (length t) (omega (arith, u_le, less)))
    (leads_use n most ds leads.0 t s over low leads.1)
