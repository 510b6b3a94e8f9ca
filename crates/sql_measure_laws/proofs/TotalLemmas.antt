-- Sums over numbers, by the groups that they are of.
use Rattle.std.proofs.Common.{◌≡◌, ◌<◌, ◌≤◌, ◌+◌, ◌*◌, ◌==◌, ℕ, zero, suc, Bool, true, false, refl, sym, ap, ◌∙◌, inl, inr, arith}
use Rattle.std.proofs.lemmas.Bool.{cases_eq, cases_lt, eq-eqb}
use Rattle.std.specs.Prelude.{if◌then◌else◌}
use Rattle.attr_sets.specs.Attributes.{count_below}
use Rattle.legality.proofs.CountLemmas.{other_number}
use Rattle.removal_laws.specs.Counts.{total}
use Rattle.sql_measure_laws.proofs.SumLemmas.{when, total-sum}

pub total-zero : (f : ℕ → ℕ) (n : ℕ) → ((k : ℕ) → k < n → f k ≡ 0) → total f n ≡ 0
unfolding total
total-zero f zero none = refl
total-zero f (suc n) none = omega (arith, total-zero f n (λ k low. none k (omega (arith, low))), none n (omega arith))

-- where it is more than none, some part is
pub total-some : (f : ℕ → ℕ) (n : ℕ) → 0 < total f n → (k : ℕ) × (k < n) × (0 < f k)
unfolding total
total-some f zero more = absurd (omega (arith, more))
total-some f (suc n) more = elim (cases_lt 0 (f n)) [
  | inl here ↦ (n, omega arith, here)
  | inr none ↦ let w = total-some f n (omega (arith, more, none)) in (w.0, omega (arith, w.1), w.2)
]

pub part-total : (f : ℕ → ℕ) (n k : ℕ) → k < n → f k ≤ total f n
unfolding total
part-total f zero k low = absurd (omega (arith, low))
part-total f (suc n) k low = elim (cases_eq k n) [
  | inl last ↦ let same = ap f last in omega (arith, same)
  | inr other ↦ let before = part-total f n k (omega (arith, low, other)) in omega (arith, before)
]

-- one number is of one group
total-one : (g v : ℕ) (m : ℕ) → g < m → total (λ h. when (g == h) v) m ≡ v
unfolding total
total-one g v zero low = absurd (omega (arith, low))
total-one g v (suc m) low = elim (cases_eq g m) [
  | inl last ↦
      let before : total (λ (h : ℕ). when (g == h) v) m ≡ 0 =
      total-zero (λ (h : ℕ). when (g == h) v) m (λ h h_in. ap (λ (b : Bool). when b v) (other_number g h (λ same. omega (arith, same, last, h_in)))) in
      let here : when (g == m) v ≡ v = ap (λ (b : Bool). when b v) (eq-eqb g m last) in
      omega (arith, before, here)
  | inr other ↦
      let before = total-one g v m (omega (arith, low, other)) in
      let here : when (g == m) v ≡ 0 = ap (λ (b : Bool). when b v) (other_number g m other) in
      omega (arith, before, here)
]

pub total-by-groups : (f group : ℕ → ℕ) (m n : ℕ) → ((k : ℕ) → k < n → group k < m)
    → total f n ≡ total (λ h. total (λ k. when (group k == h) (f k)) n) m
unfolding total
total-by-groups f group m zero low = sym (total-zero (λ (h : ℕ). 0) m (λ h h_in. refl))
total-by-groups f group m (suc n) low =
    let rest = total-by-groups f group m n (λ k k_in. low k (omega (arith, k_in))) in
    let here = total-one (group n) (f n) m (low n (omega arith)) in
    let both = total-sum (λ (h : ℕ). total (λ (k : ℕ). when (group k == h) (f k)) n) (λ (h : ℕ). when (group n == h) (f n)) m in
    let sums : total f n + f n ≡ total (λ (h : ℕ). total (λ (k : ℕ). when (group k == h) (f k)) n) m + total (λ (h : ℕ). when (group n == h) (f n)) m =
    omega (arith, rest, here) in
    sums ∙ sym both

-- a count times a number
one_more : (m n : ℕ) → (m + 1) * n ≡ m * n + n
one_more m n = grind arith

none_more : (m n : ℕ) → (m + 0) * n ≡ m * n + 0
none_more m n = grind arith

more-times : (b : Bool) (m n : ℕ) → (m + (if b then 1 else 0)) * n ≡ m * n + when b n
more-times true m n = one_more m n
more-times false m n = none_more m n

zero_times : (n : ℕ) → 0 * n ≡ 0
zero_times n = omega arith

pub count-times : (p : ℕ → Bool) (n v : ℕ) → count_below p n * v ≡ total (λ k. when (p k) v) n
unfolding total count_below
count-times p zero v = zero_times v
count-times p (suc n) v = more-times (p n) (count_below p n) v ∙ ap (λ (m : ℕ). m + when (p n) v) (count-times p n v)
