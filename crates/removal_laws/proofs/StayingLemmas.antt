-- The rows that stay: which they are, and how many.
use Rattle.std.proofs.Common.{◌≡◌, ℕ, zero, suc, ◌+◌, ◌<◌, Bool, true, false, [], ◌∷◌, length, refl, sym, ap, subst, ◌∙◌, ⊎_elim, arith}
use Rattle.std.proofs.lemmas.Bool.{cases_Bool}
use Rattle.std.specs.Prelude.{Contains, if◌then◌else◌}
use Rattle.attr_sets.specs.Attributes.{Attributes, count_below}
use Rattle.attr_sets.proofs.AttributesLemmas.{count_below-equal}
use Rattle.dep_model.specs.Tuples.{Tuple, Relation}
use Rattle.dep_model.proofs.ListLemmas.{Contains-head, Contains-later, Contains-cases}
use Rattle.row_store.specs.Rows.{row_at}
use Rattle.removal_laws.specs.Removals.{Positions, rows_from, rows_at}

-- a count from the front
count-front : (x : Attributes) (n : ℕ) → count_below x (suc n) ≡ count_below x 1 + count_below (λ k. x (suc k)) n
unfolding count_below
count-front x zero = grind arith
count-front x (suc n) = grind (arith, count-front x n)

one_more : (x : Attributes) → x 0 ≡ true → count_below x 1 ≡ 1
unfolding count_below
one_more x passes = grind (arith, passes)

no_more : (x : Attributes) → x 0 ≡ false → count_below x 1 ≡ 0
unfolding count_below
no_more x fails = grind (arith, fails)

-- ---- how many stay
count_from : (i : ℕ) (stays : Positions) (r : Relation) → length (rows_from i stays r) ≡ count_below (λ k. stays (i + k)) (length r)
unfolding rows_from count_below
count_from i stays [] = refl
count_from i stays (t ∷ r) =
    let shifted = count-front (λ k. stays (i + k)) (length r) in
    let rest : length (rows_from (i + 1) stays r) ≡ count_below (λ k. stays (i + suc k)) (length r) =
    count_from (i + 1) stays r ∙ count_below-equal (length r) (λ k. stays (i + 1 + k)) (λ k. stays (i + suc k)) (λ k lt. ap stays (omega arith)) in
    ⊎_elim
    (λ (here : stays i ≡ true). rw here (omega (arith, shifted, rest, one_more (λ k. stays (i + k)) (ap stays (omega arith) ∙ here))))
    (λ (gone : stays i ≡ false). rw gone (omega (arith, shifted, rest, no_more (λ k. stays (i + k)) (ap stays (omega arith) ∙ gone))))
    (cases_Bool (stays i))

pub count_staying : (stays : Positions) (r : Relation) → length (rows_at stays r) ≡ count_below stays (length r)
count_staying stays r =
    count_from 0 stays r ∙ count_below-equal (length r) (λ k. stays (0 + k)) stays (λ k lt. ap stays (omega arith))

-- ---- which stay
stay_from : (i : ℕ) (stays : Positions) (r : Relation) (k : ℕ) → k < length r → stays (i + k) ≡ true
    → Contains (rows_from i stays r) (row_at r k)
unfolding rows_from
stay_from i stays [] k lt passes = absurd (omega (arith, lt))
stay_from i stays (t ∷ r) zero lt passes =
    let at : i ≡ i + zero = omega arith in
    rw (ap stays at ∙ passes) (Contains-head t (rows_from (i + 1) stays r))
stay_from i stays (t ∷ r) (suc k) lt passes =
    let at : i + 1 + k ≡ i + suc k = omega arith in
    let later = stay_from (i + 1) stays r k (omega (arith, lt)) (ap stays at ∙ passes) in
    ⊎_elim
    (λ (here : stays i ≡ true). rw here (Contains-later t (rows_from (i + 1) stays r) (row_at r k) later))
    (λ (gone : stays i ≡ false). rw gone later)
    (cases_Bool (stays i))

pub stay : (stays : Positions) (r : Relation) (k : ℕ) → k < length r → stays k ≡ true → Contains (rows_at stays r) (row_at r k)
stay stays r k lt passes = stay_from 0 stays r k lt (ap stays (omega arith) ∙ passes)

-- a row that stays is one at some position that passes
abbrev pub StandsAt : ℕ → Positions → Relation → Tuple → Type 0
StandsAt i stays r t = (k : ℕ) × (k < length r) × (stays (i + k) ≡ true) × (row_at r k ≡ t)

stands_later : (i : ℕ) (stays : Positions) (t u : Tuple) (r : Relation) → StandsAt (i + 1) stays r t → StandsAt i stays (u ∷ r) t
stands_later i stays t u r (k, lt, passes, is) = (suc k, omega (arith, lt), ap stays (omega arith) ∙ passes, is)

stands_from : (i : ℕ) (stays : Positions) (r : Relation) (t : Tuple) → Contains (rows_from i stays r) t → StandsAt i stays r t
unfolding rows_from
stands_from i stays [] t h = absurd (omega (arith, h.1))
stands_from i stays (u ∷ r) t h =
    ⊎_elim
    (λ (here : stays i ≡ true). ⊎_elim
    (λ (first : t ≡ u). (0, omega arith, ap stays (omega arith) ∙ here, sym first))
    (λ (later : Contains (rows_from (i + 1) stays r) t). stands_later i stays t u r (stands_from (i + 1) stays r t later))
    (Contains-cases u (rows_from (i + 1) stays r) t (subst (λ (b : Bool). Contains (if b then u ∷ rows_from (i + 1) stays r else rows_from (i + 1) stays r) t) here h)))
    (λ (gone : stays i ≡ false). stands_later i stays t u r (stands_from (i + 1) stays r t
    (subst (λ (b : Bool). Contains (if b then u ∷ rows_from (i + 1) stays r else rows_from (i + 1) stays r) t) gone h)))
    (cases_Bool (stays i))

pub stands : (stays : Positions) (r : Relation) (t : Tuple) → Contains (rows_at stays r) t
    → (k : ℕ) × (k < length r) × (stays k ≡ true) × (row_at r k ≡ t)
stands stays r t h =
    let at = stands_from 0 stays r t h in
    (at.0, at.1, ap stays (omega arith) ∙ at.2, at.3)
