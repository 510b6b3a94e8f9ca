-- A count over rows is the sum over groups of the count within each.
use Rattle.std.proofs.Common.{◌≡◌, ℕ, zero, suc, ◌+◌, ◌<◌, ◌≤◌, ◌⊎◌, true, false, ◌&&◌, ◌==◌, nat_lt, refl, sym, ap, ◌∙◌, inl, inr, ⊎_elim, arith}
use Rattle.std.proofs.lemmas.Bool.{cases_Bool, cases_eq}
use Rattle.std.proofs.lemmas.Bool.Decides.{nat_tests}
use Rattle.attr_sets.specs.Attributes.{Attributes, count_below}
use Rattle.attr_sets.proofs.AttributesLemmas.{count_below-equal, count_below-none}
use Rattle.removal_laws.specs.Counts.{total}

-- ---- sums over the numbers below n
pub total-le : (f g : ℕ → ℕ) (n : ℕ) → ((k : ℕ) → k < n → f k ≤ g k) → total f n ≤ total g n
unfolding total
total-le f g zero each = omega arith
total-le f g (suc n) each = omega (arith, total-le f g n (λ k lt. each k (omega (arith, lt))), each n (omega arith))

pub total-same : (f g : ℕ → ℕ) (n : ℕ) → ((k : ℕ) → k < n → f k ≡ g k) → total f n ≡ total g n
unfolding total
total-same f g zero each = refl
total-same f g (suc n) each = omega (arith, total-same f g n (λ k lt. each k (omega (arith, lt))), each n (omega arith))

-- ---- counts
-- what passes below n passes another test too
pub count-le : (n : ℕ) (x y : Attributes) → ((k : ℕ) → k < n → x k ≡ true → y k ≡ true) → count_below x n ≤ count_below y n
unfolding count_below
count-le zero x y within = omega arith
count-le (suc n) x y within = grind (arith, count-le n x y (λ k lt. within k (omega (arith, lt))), within n (omega arith))

-- some position passes, or none does
none_up_to : (x : Attributes) (n : ℕ) → ((k : ℕ) → k < n → x k ≡ false) → x n ≡ false → (k : ℕ) → k < suc n → x k ≡ false
none_up_to x n none last k lt =
    ⊎_elim (λ (at : k ≡ n). ap x at ∙ last) (λ (other : k ≡ n → ⊥). none k (omega (arith, lt, other))) (cases_eq k n)

pub found_below : (x : Attributes) (n : ℕ) → ((k : ℕ) × (k < n) × (x k ≡ true)) ⊎ ((k : ℕ) → k < n → x k ≡ false)
found_below x zero = inr (λ k lt. absurd (omega (arith, lt)))
found_below x (suc n) =
    ⊎_elim (λ (here : x n ≡ true). inl (n, omega arith, here))
    (λ (not_here : x n ≡ false). ⊎_elim
    (λ (there : (k : ℕ) × (k < n) × (x k ≡ true)). inl (there.0, omega (arith, there.1), there.2))
    (λ (none : (k : ℕ) → k < n → x k ≡ false). inr (none_up_to x n none not_here))
    (found_below x n))
    (cases_Bool (x n))

-- ---- a count, by groups
-- the positions that pass in a group
abbrev pub in_group : Attributes → (ℕ → ℕ) → ℕ → Attributes
in_group x group h k = x k && (group k == h)

-- the positions that pass in the groups below m
abbrev below_group : Attributes → (ℕ → ℕ) → ℕ → Attributes
below_group x group m k = x k && nat_lt (group k) m

next_group : (x : Attributes) (group : ℕ → ℕ) (m n : ℕ)
    → count_below (below_group x group (suc m)) n ≡ count_below (below_group x group m) n + count_below (in_group x group m) n
unfolding count_below
next_group x group m zero = refl
next_group x group m (suc n) = grind (arith, nat_tests, next_group x group m n)

groups_below : (x : Attributes) (group : ℕ → ℕ) (m n : ℕ)
    → total (λ h. count_below (in_group x group h) n) m ≡ count_below (below_group x group m) n
unfolding total
groups_below x group zero n = sym (count_below-none n (below_group x group zero) (λ k lt. grind (arith, nat_tests)))
groups_below x group (suc m) n = omega (arith, groups_below x group m n, next_group x group m n)

pub count_by_groups : (x : Attributes) (group : ℕ → ℕ) (m n : ℕ) → ((k : ℕ) → k < n → group k < m)
    → count_below x n ≡ total (λ h. count_below (in_group x group h) n) m
count_by_groups x group m n low =
    count_below-equal n x (below_group x group m) (λ k lt. grind (arith, nat_tests, low k lt))
    ∙ sym (groups_below x group m n)
