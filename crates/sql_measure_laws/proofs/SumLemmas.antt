-- Sums over the members of a list, and how often values stand in one.
use Rattle.std.proofs.Common.{◌≡◌, ◌+◌, ◌<◌, ◌≤◌, ℕ, zero, suc, Bool, true, false, ◌||◌, List, [], ◌∷◌, length, map, filter, refl, sym, ap, subst, ◌∙◌, inl, inr, arith}
use Rattle.std.proofs.lemmas.Bool.{cases_Bool, cases_eq, true≢false}
use Rattle.std.specs.Prelude.{Contains, if◌then◌else◌, nat_lt}
use Rattle.std.proofs.lemmas.Bool.Decides.{nat_tests}
use Rattle.std.specs.Set.{unique_keys}
use Rattle.attr_sets.specs.Attributes.{Attributes, count_below}
use Rattle.dep_model.specs.Tuples.{Tuple, Relation}
use Rattle.dep_model.proofs.ListLemmas.{Contains-head, Contains-later, Contains-cases, Contains-map}
use Rattle.dep_model.proofs.SchemeLemmas.{count_below-start}
use Rattle.removal_laws.specs.Counts.{total}
use Rattle.row_store.specs.Rows.{row_at}
use Rattle.sql_check_laws.proofs.CountLemmas.{DecidesSame, filter-once}

-- ---- sums
-- a number where a test passes
abbrev pub when : Bool → ℕ → ℕ
when b n = if b then n else 0

abbrev pub sum_over : {X : Type 0} → (X → ℕ) → List X → ℕ
sum_over f [] = 0
sum_over f (x ∷ xs) = f x + sum_over f xs

pub when-zero : (b : Bool) → when b 0 ≡ 0
when-zero true = refl
when-zero false = refl

pub when-add : (b : Bool) (m n : ℕ) → when b (m + n) ≡ when b m + when b n
when-add true m n = refl
when-add false m n = refl

pub sum-known : {X : Type 0} (f g : X → ℕ) (xs : List X) → ((x : X) → Contains xs x → f x ≡ g x) → sum_over f xs ≡ sum_over g xs
sum-known f g [] known = refl
sum-known f g (x ∷ xs) known = omega (arith, known x (Contains-head x xs), sum-known f g xs (λ z h. known z (Contains-later x xs z h)))

pub sum-zero : {X : Type 0} (f : X → ℕ) (xs : List X) → ((x : X) → f x ≡ 0) → sum_over f xs ≡ 0
sum-zero f [] none = refl
sum-zero f (x ∷ xs) none = omega (arith, none x, sum-zero f xs none)

pub sum-add : {X : Type 0} (f g : X → ℕ) (xs : List X) → sum_over (λ x. f x + g x) xs ≡ sum_over f xs + sum_over g xs
sum-add f g [] = refl
sum-add f g (x ∷ xs) = omega (arith, sum-add f g xs)

pub sum-filter : {X : Type 0} (f : X → ℕ) (p : X → Bool) (xs : List X) → sum_over f (filter p xs) ≡ sum_over (λ x. when (p x) (f x)) xs
sum-filter f p [] = refl
sum-filter f p (x ∷ xs) = elim (cases_Bool (p x)) [
  | inl passes ↦ rw passes (omega (arith, sum-filter f p xs))
  | inr fails ↦ rw fails (omega (arith, sum-filter f p xs))
]

-- ---- how many members pass a test
pub filter-more : {X : Type 0} (p : X → Bool) (x : X) (xs : List X) → length (filter p (x ∷ xs)) ≡ when (p x) 1 + length (filter p xs)
filter-more p x xs = elim (cases_Bool (p x)) [
  | inl passes ↦ rw passes (omega arith)
  | inr fails ↦ rw fails (omega arith)
]

pub length-sum : {X : Type 0} (p : X → Bool) (xs : List X) → length (filter p xs) ≡ sum_over (λ x. when (p x) 1) xs
length-sum p [] = refl
length-sum p (x ∷ xs) = filter-more p x xs ∙ ap (λ (n : ℕ). when (p x) 1 + n) (length-sum p xs)

-- ---- a list of values that a function has, each once
-- whether a value is one of the first ones of the function
among : {K : Type 0} → (K → K → Bool) → (ℕ → K) → ℕ → K → Bool
among eq key zero k = false
among eq key (suc m) k = among eq key m k || eq k (key m)

or_left : (a b : Bool) → a ≡ true → (a || b) ≡ true
or_left true b e = refl
or_left false b e = absurd (true≢false (sym e))

or_right : (a b : Bool) → b ≡ true → (a || b) ≡ true
or_right true b e = refl
or_right false b e = e

among-some : {K : Type 0} (eq : K → K → Bool) (key : ℕ → K) (m : ℕ) (k : K) → among eq key m k ≡ true → (h : ℕ) × (h < m) × (eq k (key h) ≡ true)
unfolding among
among-some eq key zero k is = absurd (true≢false (sym is))
among-some eq key (suc m) k is = elim (cases_Bool (among eq key m k)) [
  | inl before ↦ let w = among-some eq key m k before in (w.0, omega (arith, w.1), w.2)
  | inr not_before ↦ (m, omega arith, subst (λ (b : Bool). (b || eq k (key m)) ≡ true) not_before is)
]

some-among : {K : Type 0} (eq : K → K → Bool) (key : ℕ → K) (m h : ℕ) (k : K) → h < m → eq k (key h) ≡ true → among eq key m k ≡ true
unfolding among
some-among eq key zero h k low is = absurd (omega (arith, low))
some-among eq key (suc m) h k low is = elim (cases_eq h m) [
  | inl last ↦ or_right (among eq key m k) (eq k (key m)) (subst (λ (j : ℕ). eq k (key j) ≡ true) last is)
  | inr other ↦ or_left (among eq key m k) (eq k (key m)) (some-among eq key m h k (omega (arith, low, other)) is)
]

split_when : (a b : Bool) (n : ℕ) → (a ≡ true → b ≡ true → ⊥) → when (a || b) n ≡ when a n + when b n
split_when true true n apart = absurd (apart refl refl)
split_when true false n apart = omega arith
split_when false b n apart = omega arith

sum-upto : {K : Type 0} (eq : K → K → Bool) → DecidesSame eq → (key : ℕ → K) (ks : List K) (f : K → ℕ) (m : ℕ)
    → ((h : ℕ) → h < m → filter (λ k. eq k (key h)) ks ≡ key h ∷ []) → ((g h : ℕ) → g < m → h < m → key g ≡ key h → g ≡ h)
    → sum_over (λ k. when (among eq key m k) (f k)) ks ≡ total (λ h. f (key h)) m
unfolding among total
sum-upto {K} eq same key ks f zero once apart = sum-zero (λ (k : K). 0) ks (λ k. refl)
sum-upto {K} eq same key ks f (suc m) once apart =
    let rest = sum-upto eq same key ks f m (λ h low. once h (omega (arith, low))) (λ g h g_low h_low. apart g h (omega (arith, g_low)) (omega (arith, h_low))) in
    let here : sum_over (λ (k : K). when (eq k (key m)) (f k)) ks ≡ f (key m) + 0 =
    sym (sum-filter f (λ (k : K). eq k (key m)) ks) ∙ ap (sum_over f) (once m (omega arith)) in
    let parts : sum_over (λ (k : K). when (among eq key m k || eq k (key m)) (f k)) ks
    ≡ sum_over (λ (k : K). when (among eq key m k) (f k) + when (eq k (key m)) (f k)) ks =
    sum-known (λ (k : K). when (among eq key m k || eq k (key m)) (f k)) (λ (k : K). when (among eq key m k) (f k) + when (eq k (key m)) (f k)) ks
    (λ k h. split_when (among eq key m k) (eq k (key m)) (f k) (λ before is.
    let w = among-some eq key m k before in
    let equal : w.0 ≡ m = apart w.0 m (omega (arith, w.1)) (omega arith) (sym ((same k (key w.0)).0 w.2) ∙ (same k (key m)).0 is) in
    omega (arith, equal, w.1))) in
    let sums = sum-add (λ (k : K). when (among eq key m k) (f k)) (λ (k : K). when (eq k (key m)) (f k)) ks in
    parts ∙ sums ∙ omega (arith, rest, here)

pub sum-total : {K : Type 0} (eq : K → K → Bool) → DecidesSame eq → (key : ℕ → K) (ks : List K) (f : K → ℕ) (m : ℕ)
    → ((h : ℕ) → h < m → filter (λ k. eq k (key h)) ks ≡ key h ∷ []) → ((g h : ℕ) → g < m → h < m → key g ≡ key h → g ≡ h)
    → ((k : K) → Contains ks k → (h : ℕ) × (h < m) × (k ≡ key h))
    → sum_over f ks ≡ total (λ h. f (key h)) m
sum-total {K} eq same key ks f m once apart all =
    sum-known f (λ (k : K). when (among eq key m k) (f k)) ks (λ k h.
    let w = all k h in
    sym (ap (λ (b : Bool). when b (f k)) (some-among eq key m w.0 k w.1 ((same k (key w.0)).1 w.2))))
    ∙ sum-upto eq same key ks f m once apart

-- ---- how often a value stands
abbrev pub times : {X K : Type 0} → (K → K → Bool) → (X → K) → List X → K → ℕ
times eq f xs k = length (filter (λ x. eq (f x) k) xs)

times-upto : {X K : Type 0} (eq : K → K → Bool) (f : X → K) (p : K → Bool) (ks : List K) (xs : List X)
    → ((x : X) → Contains xs x → sum_over (λ k. when (p k) (when (eq (f x) k) 1)) ks ≡ when (p (f x)) 1)
    → sum_over (λ k. when (p k) (times eq f xs k)) ks ≡ length (filter (λ x. p (f x)) xs)
times-upto {X} {K} eq f p ks [] one = sum-zero (λ (k : K). when (p k) 0) ks (λ k. when-zero (p k))
times-upto {X} {K} eq f p ks (x ∷ xs) one =
    let rest = times-upto eq f p ks xs (λ z h. one z (Contains-later x xs z h)) in
    let here = one x (Contains-head x xs) in
    let more = filter-more (λ (z : X). p (f z)) x xs in
    let parts : sum_over (λ (k : K). when (p k) (times eq f (x ∷ xs) k)) ks
    ≡ sum_over (λ (k : K). when (p k) (when (eq (f x) k) 1) + when (p k) (times eq f xs k)) ks =
    sum-known (λ (k : K). when (p k) (times eq f (x ∷ xs) k)) (λ (k : K). when (p k) (when (eq (f x) k) 1) + when (p k) (times eq f xs k)) ks
    (λ k h. ap (when (p k)) (filter-more (λ (z : X). eq (f z) k) x xs) ∙ when-add (p k) (when (eq (f x) k) 1) (times eq f xs k)) in
    let sums = sum-add (λ (k : K). when (p k) (when (eq (f x) k) 1)) (λ (k : K). when (p k) (times eq f xs k)) ks in
    parts ∙ sums ∙ omega (arith, rest, here, more)

-- the value of a member stands once among the values
one-value : {K : Type 0} (eq : K → K → Bool) → DecidesSame eq → (p : K → Bool) (ks : List K) (v : K) → filter (λ k. eq k v) ks ≡ v ∷ []
    → sum_over (λ k. when (p k) (when (eq v k) 1)) ks ≡ when (p v) 1
one-value {K} eq same p ks v once =
    let c : ℕ = when (p v) 1 in
    let turned : (k : K) → when (p k) (when (eq v k) 1) ≡ when (eq k v) c = λ k. elim (cases_Bool (eq k v)) [
      | inl is ↦
          let equal : k ≡ v = (same k v).0 is in
          let back : eq v k ≡ true = (same v k).1 (sym equal) in
          ap (λ (b : Bool). when (p k) (when b 1)) back ∙ ap (λ (z : K). when (p z) 1) equal ∙ ap (λ (b : Bool). when b c) (sym is)
      | inr other ↦
          let not_back : eq v k ≡ false = elim (cases_Bool (eq v k)) [
            | inl back ↦ absurd (true≢false (sym ((same k v).1 (sym ((same v k).0 back))) ∙ other))
            | inr none ↦ none
          ] in
          ap (λ (b : Bool). when (p k) (when b 1)) not_back ∙ when-zero (p k) ∙ ap (λ (b : Bool). when b c) (sym other)
    ] in
    sum-known (λ (k : K). when (p k) (when (eq v k) 1)) (λ (k : K). when (eq k v) c) ks (λ k h. turned k)
    ∙ sym (sum-filter (λ (k : K). c) (λ (k : K). eq k v) ks)
    ∙ ap (sum_over (λ (k : K). c)) once
    ∙ omega arith

-- the values that pass stand as often together as members have such a value
pub times-total : {X K : Type 0} (eq : K → K → Bool) → DecidesSame eq → (f : X → K) (p : K → Bool) (xs : List X)
    → sum_over (times eq f xs) (filter p (unique_keys eq (map f xs))) ≡ length (filter (λ x. p (f x)) xs)
times-total {X} {K} eq same f p xs =
    sum-filter (times eq f xs) p (unique_keys eq (map f xs))
    ∙ times-upto eq f p (unique_keys eq (map f xs)) xs (λ x h.
    one-value eq same p (unique_keys eq (map f xs)) (f x) (filter-once eq same (map f xs) (f x) (Contains-map f xs x h)))

-- ---- the greatest of numbers
abbrev pub larger : ℕ → ℕ → ℕ
larger m n = if nat_lt m n then n else m

abbrev pub max_over : {X : Type 0} → (X → ℕ) → List X → ℕ
max_over f [] = 0
max_over f (x ∷ xs) = larger (f x) (max_over f xs)

max-bound : {X : Type 0} (f : X → ℕ) (xs : List X) (m : ℕ) → ((x : X) → Contains xs x → f x ≤ m) → max_over f xs ≤ m
max-bound f [] m bound = omega arith
max-bound f (x ∷ xs) m bound =
    let here = bound x (Contains-head x xs) in
    let rest = max-bound f xs m (λ z h. bound z (Contains-later x xs z h)) in
    grind (arith, nat_tests, here, rest)

max-above : {X : Type 0} (f : X → ℕ) (xs : List X) (x : X) → Contains xs x → f x ≤ max_over f xs
max-above f [] x h = absurd (omega (arith, h.1))
max-above f (z ∷ xs) x h = elim (Contains-cases z xs x h) [
  | inl first ↦ let same = ap f first in grind (arith, nat_tests, same)
  | inr later ↦ let rest = max-above f xs x later in grind (arith, nat_tests, rest)
]

pub max-is : {X : Type 0} (f : X → ℕ) (xs : List X) (x : X) (m : ℕ) → Contains xs x → f x ≡ m → ((z : X) → Contains xs z → f z ≤ m) → max_over f xs ≡ m
max-is f xs x m there is bound =
    let above = max-above f xs x there in
    let below = max-bound f xs m bound in
    omega (arith, above, below, is)

-- ---- counts of rows
pub count_front : (x : Attributes) (n : ℕ) → count_below x (suc n) ≡ when (x 0) 1 + count_below (λ i. x (suc i)) n
unfolding count_below
count_front x zero = omega arith
count_front x (suc n) = omega (arith, count_front x n)

pub count_rows : (p : Tuple → Bool) (r : Relation) → length (filter p r) ≡ count_below (λ i. p (row_at r i)) (length r)
count_rows p [] = sym (count_below-start (λ (i : ℕ). p (row_at [] i)))
count_rows p (t ∷ r) =
    filter-more p t r
    ∙ ap (λ (n : ℕ). when (p t) 1 + n) (count_rows p r)
    ∙ sym (count_front (λ (i : ℕ). p (row_at (t ∷ r) i)) (length r))

-- ---- sums over numbers
pub total-count : (p : ℕ → Bool) (n : ℕ) → total (λ h. when (p h) 1) n ≡ count_below p n
unfolding total count_below
total-count p zero = refl
total-count p (suc n) = omega (arith, total-count p n)

pub total-sum : (f g : ℕ → ℕ) (n : ℕ) → total (λ h. f h + g h) n ≡ total f n + total g n
unfolding total
total-sum f g zero = refl
total-sum f g (suc n) = omega (arith, total-sum f g n)
