-- What every step keeps, and what follows for the tableaux that are reached.
use Rattle.std.proofs.Common.{◌≡◌, ℕ, ◌+◌, ◌<◌, ◌≤◌, zero, suc, Bool, true, false, cond, List, [], ◌∷◌, length, sym, ap, subst, ◌∙◌, inl, inr, ⊎_elim, arith}
use Rattle.std.proofs.lemmas.Bool.{cases_lt}
use Rattle.std.specs.Prelude.{Contains}
use Rattle.attr_sets.specs.Attributes.{Attributes, union}
use Rattle.dep_model.specs.Dependencies.{Dependency}
use Rattle.dep_model.proofs.ListLemmas.{map-member, Contains-map, Contains-head, Contains-later}
use Rattle.chase_laws.specs.Tableaux.{SymbolRow, Tableau, SameTableau, symbol_at, scheme_row, scheme_rows, plan_tableau}
use Rattle.chase_laws.specs.Steps.{replace_in_row, exchange_rows, IsFdStep, IsMvdStep, IsFunctionalStep, IsChaseStep, LeadsIn}
use Rattle.chase_laws.specs.Rounds.{ReachesTableau}
use Rattle.chase_laws.proofs.TableauLemmas.{symbol_at_past, length-scheme_row, symbol_at-scheme_row, length-exchange_rows, symbol_at-exchange_rows, length-replace_in_row, replaced_le, symbol_after, symbol_at-replace_in_row, cons_cases}

-- ---- any number of steps
-- what holds of one of two equal tableaux holds of the other, and each step keeps it
pub holds_after_steps : (Step : Tableau → Tableau → Type 0) (P : Tableau → Type 0) → ((t s : Tableau) → SameTableau t s → P t → P s) → ((t s : Tableau) → Step t s → P t → P s)
    → (count : ℕ) (t s : Tableau) → LeadsIn Step count t s → P t → P s
holds_after_steps Step P same step zero t s leads p = same t s leads p
holds_after_steps Step P same step (suc count) t s leads p = step leads.0 s leads.2 (holds_after_steps Step P same step count t leads.0 leads.1 p)

-- a fact of each row
abbrev pub Each : (SymbolRow → Type 0) → Tableau → Type 0
Each Q t = (row : SymbolRow) → Contains t row → Q row

pub Each-same : (Q : SymbolRow → Type 0) (t s : Tableau) → SameTableau t s → Each Q t → Each Q s
Each-same Q t s same each row h = each row ((same row).1 h)

pub Each-fd : (Q : SymbolRow → Type 0) (x y : Attributes) (t s : Tableau) (step : IsFdStep x y t s)
    → ((p : SymbolRow) → Contains t p → Q (replace_in_row step.attribute (symbol_at step.second step.attribute) (symbol_at step.first step.attribute) p)) → Each Q s
Each-fd Q x y t s step each row h =
    let w = map-member (replace_in_row step.attribute (symbol_at step.second step.attribute) (symbol_at step.first step.attribute)) t row ((step.after row).1 h) in
    subst Q w.2 (each w.0 w.1)

pub Each-mvd : (Q : SymbolRow → Type 0) (n : ℕ) (x y : Attributes) (t s : Tableau) (step : IsMvdStep n x y t s) → Each Q t → Q (exchange_rows n (union x y) step.first step.second) → Each Q s
Each-mvd Q n x y t s step each made row h =
    ⊎_elim (λ (e : exchange_rows n (union x y) step.first step.second ≡ row). subst Q e made) (each row) (cons_cases (exchange_rows n (union x y) step.first step.second) t row ((step.after row).1 h))

-- ---- the length of the rows
abbrev pub HasLength : ℕ → SymbolRow → Type 0
HasLength n row = length row ≡ n

over_fd : (n : ℕ) (ds : List Dependency) (t s : Tableau) → IsFunctionalStep ds t s → Each (HasLength n) t → Each (HasLength n) s
over_fd n ds t s step each =
    Each-fd (HasLength n) step.lhs step.rhs t s step.step
    (λ p p_in. length-replace_in_row step.step.attribute (symbol_at step.step.second step.step.attribute) (symbol_at step.step.first step.step.attribute) p ∙ each p p_in)

over_step : (n : ℕ) (ds : List Dependency) (t s : Tableau) → IsChaseStep n ds t s → Each (HasLength n) t → Each (HasLength n) s
over_step n ds t s (inl step) each = over_fd n ds t s step each
over_step n ds t s (inr step) each = Each-mvd (HasLength n) n step.lhs step.rhs t s step.step each (length-exchange_rows n (union step.lhs step.rhs) step.step.first step.step.second)

pub over-functional : (n : ℕ) (ds : List Dependency) (count : ℕ) (t s : Tableau) → LeadsIn (IsFunctionalStep ds) count t s → Each (HasLength n) t → Each (HasLength n) s
over-functional n ds = holds_after_steps (IsFunctionalStep ds) (Each (HasLength n)) (Each-same (HasLength n)) (over_fd n ds)

pub over-leads : (n : ℕ) (ds : List Dependency) (count : ℕ) (t s : Tableau) → LeadsIn (IsChaseStep n ds) count t s → Each (HasLength n) t → Each (HasLength n) s
over-leads n ds = holds_after_steps (IsChaseStep n ds) (Each (HasLength n)) (Each-same (HasLength n)) (over_step n ds)

-- ---- a step by a functional dependency
module _ (n : ℕ) (x y : Attributes) (t s : Tableau) (over : Each (HasLength n) t) (step : IsFdStep x y t s) where
  pub fd_attribute_low : step.attribute < n
  fd_attribute_low = elim (cases_lt step.attribute n) [
    | inl within ↦ within
    | inr past ↦ absurd (omega (arith, step.differ, symbol_at_past step.second step.attribute (omega (arith, past, over step.second step.second_in))))
  ]

  -- each row after it is one of before in which the symbol is replaced
  pub fd_came : (row : SymbolRow) → Contains s row → (p : SymbolRow) × Contains t p × ((k : ℕ) → symbol_at row k ≡ symbol_after step.attribute (symbol_at step.second step.attribute) (symbol_at step.first step.attribute) k (symbol_at p k))
  fd_came row h =
      let former = symbol_at step.second step.attribute in
      let later = symbol_at step.first step.attribute in
      let w = map-member (replace_in_row step.attribute former later) t row ((step.after row).1 h) in
      (w.0, w.1, λ (k : ℕ). ap (λ (r : SymbolRow). symbol_at r k) (sym w.2) ∙ symbol_at-replace_in_row step.attribute former later w.0 k (omega (arith, fd_attribute_low, over w.0 w.1)))

-- ---- the greatest symbol
abbrev pub HasAtMost : ℕ → SymbolRow → Type 0
HasAtMost most row = (k : ℕ) → symbol_at row k ≤ most

cond_le : (b : Bool) (x y most : ℕ) → x ≤ most → y ≤ most → cond b x y ≤ most
cond_le true x y most x_low y_low = x_low
cond_le false x y most x_low y_low = y_low

most_exchanged : (most n : ℕ) (z : Attributes) (p q : SymbolRow) → HasAtMost most p → HasAtMost most q → HasAtMost most (exchange_rows n z p q)
most_exchanged most n z p q p_low q_low k = elim (cases_lt k n) [
  | inl low ↦ rw (symbol_at-exchange_rows n z p q k low) (cond_le (z k) (symbol_at p k) (symbol_at q k) most (p_low k) (q_low k))
  | inr past ↦ rw (symbol_at_past (exchange_rows n z p q) k (omega (arith, length-exchange_rows n z p q, past))) (omega arith)
]

most_fd : (most : ℕ) (ds : List Dependency) (t s : Tableau) → IsFunctionalStep ds t s → Each (HasAtMost most) t → Each (HasAtMost most) s
most_fd most ds t s step each =
    Each-fd (HasAtMost most) step.lhs step.rhs t s step.step (λ p p_in k.
    omega (arith, each p p_in k, replaced_le step.step.attribute (symbol_at step.step.second step.step.attribute) (symbol_at step.step.first step.step.attribute) p k (omega (arith, step.step.differ))))

most_step : (n most : ℕ) (ds : List Dependency) (t s : Tableau) → IsChaseStep n ds t s → Each (HasAtMost most) t → Each (HasAtMost most) s
most_step n most ds t s (inl step) each = most_fd most ds t s step each
most_step n most ds t s (inr step) each =
    Each-mvd (HasAtMost most) n step.lhs step.rhs t s step.step each
    (most_exchanged most n (union step.lhs step.rhs) step.step.first step.step.second (each step.step.first step.step.first_in) (each step.step.second step.step.second_in))

pub most-functional : (most : ℕ) (ds : List Dependency) (count : ℕ) (t s : Tableau) → LeadsIn (IsFunctionalStep ds) count t s → Each (HasAtMost most) t → Each (HasAtMost most) s
most-functional most ds = holds_after_steps (IsFunctionalStep ds) (Each (HasAtMost most)) (Each-same (HasAtMost most)) (most_fd most ds)

pub most-leads : (n most : ℕ) (ds : List Dependency) (count : ℕ) (t s : Tableau) → LeadsIn (IsChaseStep n ds) count t s → Each (HasAtMost most) t → Each (HasAtMost most) s
most-leads n most ds = holds_after_steps (IsChaseStep n ds) (Each (HasAtMost most)) (Each-same (HasAtMost most)) (most_step n most ds)

-- ---- the tableau of a plan
pub plan_over : (n i : ℕ) (plan : List Attributes) → Each (HasLength n) (scheme_rows n i plan)
plan_over n i [] row h = absurd (omega (arith, h.1))
plan_over n i (scheme ∷ plan) row h =
    ⊎_elim (λ (e : scheme_row n scheme i ≡ row). ap (λ (r : SymbolRow). length r) (sym e) ∙ length-scheme_row n scheme i) (plan_over n (suc i) plan row) (cons_cases (scheme_row n scheme i) (scheme_rows n (suc i) plan) row h)

most_scheme_row : (n : ℕ) (scheme : Attributes) (i most : ℕ) → i ≤ most → HasAtMost most (scheme_row n scheme i)
most_scheme_row n scheme i most le k = elim (cases_lt k n) [
  | inl low ↦ rw (symbol_at-scheme_row n scheme i k low) (cond_le (scheme k) 0 i most (omega arith) le)
  | inr past ↦ rw (symbol_at_past (scheme_row n scheme i) k (omega (arith, length-scheme_row n scheme i, past))) (omega arith)
]

plan_most : (n i most : ℕ) (plan : List Attributes) → i + length plan ≤ suc most → Each (HasAtMost most) (scheme_rows n i plan)
plan_most n i most [] le row h = absurd (omega (arith, h.1))
plan_most n i most (scheme ∷ plan) le row h =
    ⊎_elim
    (λ (e : scheme_row n scheme i ≡ row). subst (HasAtMost most) e (most_scheme_row n scheme i most (omega (arith, le))))
    (plan_most n (suc i) most plan (omega (arith, le)) row)
    (cons_cases (scheme_row n scheme i) (scheme_rows n (suc i) plan) row h)

-- what is reached has n symbols a row, each at most the number of schemes
pub reached-over : (n : ℕ) (ds : List Dependency) (plan : List Attributes) (t : Tableau) → ReachesTableau n ds plan t → Each (HasLength n) t
reached-over n ds plan t reached = over-leads n ds reached.0 (plan_tableau n plan) t reached.1 (plan_over n 1 plan)

pub reached-most : (n : ℕ) (ds : List Dependency) (plan : List Attributes) (t : Tableau) → ReachesTableau n ds plan t → Each (HasAtMost (length plan)) t
reached-most n ds plan t reached = most-leads n (length plan) ds reached.0 (plan_tableau n plan) t reached.1 (plan_most n 1 (length plan) plan (omega arith))

-- ---- each scheme's row: distinguished on the scheme
abbrev pub HasZerosOn : Attributes → Tableau → Type 0
HasZerosOn scheme t = (row : SymbolRow) × Contains t row × ((k : ℕ) → scheme k ≡ true → symbol_at row k ≡ 0)

zeros_same : (scheme : Attributes) (t s : Tableau) → SameTableau t s → HasZerosOn scheme t → HasZerosOn scheme s
zeros_same scheme t s same h = (h.0, (same h.0).0 h.1, h.2)

zeros_step : (n : ℕ) (ds : List Dependency) (scheme : Attributes) (t s : Tableau) → IsChaseStep n ds t s → HasZerosOn scheme t → HasZerosOn scheme s
zeros_step n ds scheme t s (inl step) h =
    let a = step.step.attribute in
    let former = symbol_at step.step.second a in
    let later = symbol_at step.step.first a in (
      replace_in_row a former later h.0,
      (step.step.after (replace_in_row a former later h.0)).0 (Contains-map (replace_in_row a former later) t h.0 h.1),
      λ k m. omega (arith, h.2 k m, replaced_le a former later h.0 k (omega (arith, step.step.differ))),
    )
zeros_step n ds scheme t s (inr step) h =
    (h.0, (step.step.after h.0).0 (Contains-later (exchange_rows n (union step.lhs step.rhs) step.step.first step.step.second) t h.0 h.1), h.2)

zeros_scheme_row : (n : ℕ) (scheme : Attributes) (i k : ℕ) → scheme k ≡ true → symbol_at (scheme_row n scheme i) k ≡ 0
zeros_scheme_row n scheme i k m = elim (cases_lt k n) [
  | inl low ↦ symbol_at-scheme_row n scheme i k low ∙ ap (λ (b : Bool). cond b 0 i) m
  | inr past ↦ symbol_at_past (scheme_row n scheme i) k (omega (arith, length-scheme_row n scheme i, past))
]

plan_zeros : (n i : ℕ) (plan : List Attributes) (scheme : Attributes) → Contains plan scheme → HasZerosOn scheme (scheme_rows n i plan)
plan_zeros n i [] scheme h = absurd (omega (arith, h.1))
plan_zeros n i (first ∷ plan) scheme h = ⊎_elim
    (λ (e : first ≡ scheme). (
      scheme_row n first i,
      Contains-head (scheme_row n first i) (scheme_rows n (suc i) plan),
      λ k m. zeros_scheme_row n first i k (ap (λ (x : Attributes). x k) e ∙ m),
    ))
    (λ later.
    let w = plan_zeros n (suc i) plan scheme later in
    (w.0, Contains-later (scheme_row n first i) (scheme_rows n (suc i) plan) w.0 w.1, w.2))
    (cons_cases first plan scheme h)

pub reached-zeros : (n : ℕ) (ds : List Dependency) (plan : List Attributes) (t : Tableau) → ReachesTableau n ds plan t → (scheme : Attributes) → Contains plan scheme → HasZerosOn scheme t
reached-zeros n ds plan t reached scheme given =
    holds_after_steps (IsChaseStep n ds) (HasZerosOn scheme) (zeros_same scheme) (zeros_step n ds scheme) reached.0 (plan_tableau n plan) t reached.1 (plan_zeros n 1 plan scheme given)
