-- What the crates above cite about sets of attributes: equality, the tests `is_subset`, `is_same` and
-- `is_disjoint` as facts, and how many members lie below n.
use Rattle.std.proofs.Common.{◌≡◌, ℕ, zero, suc, ◌+◌, ◌^◌, ◌<◌, ◌≤◌, true, false, not, ◌&&◌, ◌||◌, ◌==◌, refl, sym, ap, ◌∙◌, ◌⊎◌, inl, inr, ⊎_elim, arith, nat_lt, Bool}
use mathlib.Core.Path.{fun_ext}
use Rattle.std.specs.Bool.{Decides}
use Rattle.std.proofs.lemmas.Bool.{ltb-true, eqb-true, eq-eqb, cases_eq, cases_lt, cases_Bool, true≢false, and_parts, and_from, and_cases, false_from_ne_true, true_from_ne_false, not-true, not-false}
use Rattle.std.proofs.lemmas.Bool.Decides.{nat_tests}
use Rattle.attr_sets.specs.declared.set.AttrSet.{AttrSet}
use Rattle.attr_sets.specs.declared.set.TheConstants.{MOST_ATTRIBUTES}
use Rattle.attr_sets.specs.Attributes.{Attributes, below, only, none, union, intersection, difference, IsSubset, IsEmpty, Disjoint, Intersects, IsFirstFrom, count_below, all_below}
use Rattle.attr_sets.specs.Sets.{has_bit, attributes, is_subset, is_same, is_disjoint}
use Rattle.attr_sets.proofs.BitLemmas.{has_bit-below, same_from_has_bit, number_with_bits}

-- ---- equality

-- equal sets have the same attributes
pub same_at : {x y : Attributes} → x ≡ y → (k : ℕ) → x k ≡ y k
same_at same k = ap (λ z. z k) same

-- two tests, each of which passes where the other does
pub same_truth : (a b : Bool) → (a ≡ true → b ≡ true) → (b ≡ true → a ≡ true) → a ≡ b
same_truth true b there back = sym (there refl)
same_truth false true there back = back refl
same_truth false false there back = refl

-- each within the other
pub same_from_within : (x y : Attributes) → IsSubset x y → IsSubset y x → x ≡ y
same_from_within x y there back = fun_ext (λ k. grind (arith, there k, back k))

pub IsSubset-same : (x y : Attributes) → x ≡ y → IsSubset x y
IsSubset-same x y same k member = sym (same_at same k) ∙ member

-- ---- sets of attributes

pub attributes_below : (s : AttrSet) → IsSubset (attributes s) (below MOST_ATTRIBUTES)
unfolding attributes
attributes_below s k = has_bit-below MOST_ATTRIBUTES s.0 k

pub attributes-at_number : (a b : AttrSet) → a.0 ≡ b.0 → attributes a ≡ attributes b
unfolding attributes
attributes-at_number a b same = ap (has_bit MOST_ATTRIBUTES) same

-- two sets with the same members have the same number
pub same_number : (a b : AttrSet) → a.0 < 2 ^ MOST_ATTRIBUTES → b.0 < 2 ^ MOST_ATTRIBUTES → attributes a ≡ attributes b → a.0 ≡ b.0
unfolding attributes
same_number a b a_fits b_fits same = same_from_has_bit MOST_ATTRIBUTES a.0 b.0 a_fits b_fits (same_at same)

-- two sets with the same members are one, where their numbers are of the width
pub same_set : (a b : AttrSet) → a.0 < 2 ^ MOST_ATTRIBUTES → b.0 < 2 ^ MOST_ATTRIBUTES → attributes a ≡ attributes b → a ≡ b
same_set a b a_fits b_fits same = λ i. record { 0 = same_number a b a_fits b_fits same i }

-- each set of attributes below the width is that of some `AttrSet`
pub set_of_attributes : (x : Attributes) → IsSubset x (below MOST_ATTRIBUTES) → (s : AttrSet) × (s.0 < 2 ^ MOST_ATTRIBUTES) × (attributes s ≡ x)
unfolding attributes
set_of_attributes x low =
    let found = number_with_bits MOST_ATTRIBUTES x low in
    (record { 0 = found.0 }, found.1, fun_ext found.2)

-- the test whether two sets have the same number says whether they have the same members
pub same_number-decides : (a b : AttrSet) → a.0 < 2 ^ MOST_ATTRIBUTES → b.0 < 2 ^ MOST_ATTRIBUTES → Decides (a.0 == b.0) (attributes a ≡ attributes b)
same_number-decides a b a_fits b_fits = (
  λ equal. attributes-at_number a b (eqb-true a.0 b.0 equal),
  λ same. eq-eqb a.0 b.0 (same_number a b a_fits b_fits same),
)

-- ---- a test at every attribute below n

pub all_below-true : (n : ℕ) (x : Attributes) → all_below n x ≡ true → (k : ℕ) → k < n → x k ≡ true
unfolding all_below
all_below-true zero x passes k lt = absurd (omega arith)
all_below-true (suc n) x passes k lt =
    let both = and_parts (all_below n x) (x n) passes in
    ⊎_elim (λ (last : k ≡ n). ap x last ∙ both.1) (λ (other : k ≡ n → ⊥). all_below-true n x both.0 k (omega arith)) (cases_eq k n)

pub all_below-from : (n : ℕ) (x : Attributes) → ((k : ℕ) → k < n → x k ≡ true) → all_below n x ≡ true
unfolding all_below
all_below-from zero x each = refl
all_below-from (suc n) x each = and_from (all_below n x) (x n) (all_below-from n x (λ k lt. each k (omega arith))) (each n (omega arith))

-- a test that fails does so at some attribute
pub all_below-false : (n : ℕ) (x : Attributes) → all_below n x ≡ false → (k : ℕ) × (k < n) × (x k ≡ false)
unfolding all_below
all_below-false zero x fails = absurd (true≢false fails)
all_below-false (suc n) x fails =
    ⊎_elim (λ earlier. let found = all_below-false n x earlier in (found.0, omega (arith, found.1), found.2)) (λ last. (n, omega arith, last)) (and_cases (all_below n x) (x n) fails)

-- some member lies below n, or none does
pub tell_member : (n : ℕ) (x : Attributes) → ((k : ℕ) × (k < n) × (x k ≡ true)) ⊎ ((k : ℕ) → k < n → x k ≡ false)
tell_member n x =
    ⊎_elim
    (λ none. inr (λ k lt. not-true (x k) (all_below-true n (λ j. not (x j)) none k lt)))
    (λ not_empty. let found = all_below-false n (λ j. not (x j)) not_empty in inl (found.0, found.1, not-false (x found.0) found.2))
    (cases_Bool (all_below n (λ j. not (x j))))

-- ---- a set with no attribute from n on is tried at each attribute below n

-- x has a member, or is empty
pub tell_empty : (n : ℕ) (x : Attributes) → IsSubset x (below n) → ((k : ℕ) × (k < n) × (x k ≡ true)) ⊎ IsEmpty x
tell_empty n x low =
    ⊎_elim inl (λ none. inr (λ k. false_from_ne_true (x k) (λ member. true≢false (sym member ∙ none k (ltb-true k n (low k member)))))) (tell_member n x)

-- some member of x is not in y, or all are
pub tell_subset : (n : ℕ) (x y : Attributes) → IsSubset x (below n) → ((k : ℕ) × (k < n) × (x k ≡ true) × (y k ≡ false)) ⊎ IsSubset x y
tell_subset n x y low =
    ⊎_elim
    (λ found. let k = found.0 in inl (k, found.1, grind (arith, found.2), grind (arith, found.2)))
    (λ none. inr (λ k member. grind (arith, none k, member)))
    (tell_empty n (difference x y) (λ k member. low k (grind (arith, member))))

-- x and y have a common member, or none
pub tell_apart : (n : ℕ) (x y : Attributes) → IsSubset x (below n) → Intersects x y ⊎ Disjoint x y
tell_apart n x y low =
    ⊎_elim
    (λ found. inl (found.0, grind (arith, found.2), grind (arith, found.2)))
    (λ none. inr (λ k member. grind (arith, none k, member)))
    (tell_empty n (intersection x y) (λ k member. low k (grind (arith, member))))

least_below : (n : ℕ) (x : Attributes) (from : ℕ) → ((i : ℕ) × (i < n) × IsFirstFrom x from i) ⊎ ((k : ℕ) → from ≤ k → k < n → x k ≡ false)
least_below zero x from = inr (λ k on lt. absurd (omega arith))
least_below (suc n) x from = ⊎_elim (λ found. inl (found.0, omega (arith, found.1), found.2)) next (least_below n x from)
  where
    next : ((k : ℕ) → from ≤ k → k < n → x k ≡ false) → ((i : ℕ) × (i < suc n) × IsFirstFrom x from i) ⊎ ((k : ℕ) → from ≤ k → k < suc n → x k ≡ false)
    next none =
        ⊎_elim
        (λ (before : n < from). inr (λ k on lt. absurd (omega arith)))
        (λ (on : from ≤ n). ⊎_elim
        (λ (member : x n ≡ true). inl (n, omega arith, record { from_on = on; member = member; least = none }))
        (λ (outside : x n ≡ false). inr (λ k from_on lt. ⊎_elim (λ (last : k ≡ n). ap x last ∙ outside) (λ (other : k ≡ n → ⊥). none k from_on (omega arith)) (cases_eq k n)))
        (cases_Bool (x n)))
        (cases_lt n from)

-- x has a first member from an attribute on, or none
pub tell_least : (n : ℕ) (x : Attributes) (from : ℕ) → IsSubset x (below n) → ((i : ℕ) × (i < n) × IsFirstFrom x from i) ⊎ ((k : ℕ) → from ≤ k → x k ≡ false)
tell_least n x from low =
    ⊎_elim inl (λ none. inr (λ k on. false_from_ne_true (x k) (λ member. true≢false (sym member ∙ none k on (ltb-true k n (low k member)))))) (least_below n x from)

-- ---- the tests of sets as facts, and back: `attributes_below` shows that a set lies below the width

pub is_subset-true : (x y : Attributes) → IsSubset x (below MOST_ATTRIBUTES) → is_subset x y ≡ true → IsSubset x y
is_subset-true x y low passes k member =
    let at = all_below-true MOST_ATTRIBUTES (λ j. not (x j) || y j) passes k (ltb-true k MOST_ATTRIBUTES (low k member)) in
    grind (arith, at, member)

pub is_subset-from : (x y : Attributes) → IsSubset x y → is_subset x y ≡ true
is_subset-from x y within = all_below-from MOST_ATTRIBUTES (λ j. not (x j) || y j) (λ k lt. grind (arith, within k))

pub is_subset-not : (x y : Attributes) → IsSubset x (below MOST_ATTRIBUTES) → (IsSubset x y → ⊥) → is_subset x y ≡ false
is_subset-not x y low not_within = false_from_ne_true (is_subset x y) (λ passes. not_within (is_subset-true x y low passes))

pub is_subset-decides : (x y : Attributes) → IsSubset x (below MOST_ATTRIBUTES) → Decides (is_subset x y) (IsSubset x y)
is_subset-decides x y low = (is_subset-true x y low, is_subset-from x y)

pub is_same-true : (x y : Attributes) → IsSubset x (below MOST_ATTRIBUTES) → IsSubset y (below MOST_ATTRIBUTES) → is_same x y ≡ true → x ≡ y
is_same-true x y x_low y_low passes =
    let both = and_parts (is_subset x y) (is_subset y x) passes in
    same_from_within x y (is_subset-true x y x_low both.0) (is_subset-true y x y_low both.1)

pub is_same-from : (x y : Attributes) → x ≡ y → is_same x y ≡ true
is_same-from x y same =
    and_from (is_subset x y) (is_subset y x) (is_subset-from x y (IsSubset-same x y same)) (is_subset-from y x (IsSubset-same y x (sym same)))

pub is_same-decides : (x y : Attributes) → IsSubset x (below MOST_ATTRIBUTES) → IsSubset y (below MOST_ATTRIBUTES) → Decides (is_same x y) (x ≡ y)
is_same-decides x y x_low y_low = (is_same-true x y x_low y_low, is_same-from x y)

pub is_disjoint-true : (x y : Attributes) → IsSubset x (below MOST_ATTRIBUTES) → is_disjoint x y ≡ true → Disjoint x y
is_disjoint-true x y low passes k member =
    let at = all_below-true MOST_ATTRIBUTES (λ j. not (x j && y j)) passes k (ltb-true k MOST_ATTRIBUTES (low k member)) in
    grind (arith, at, member)

pub is_disjoint-from : (x y : Attributes) → Disjoint x y → is_disjoint x y ≡ true
is_disjoint-from x y apart = all_below-from MOST_ATTRIBUTES (λ j. not (x j && y j)) (λ k lt. grind (arith, apart k))

pub is_disjoint-not : (x y : Attributes) → IsSubset x (below MOST_ATTRIBUTES) → Intersects x y → is_disjoint x y ≡ false
is_disjoint-not x y low common =
    false_from_ne_true (is_disjoint x y) (λ passes. true≢false (sym common.2 ∙ is_disjoint-true x y low passes common.0 common.1))

pub is_disjoint-decides : (x y : Attributes) → IsSubset x (below MOST_ATTRIBUTES) → Decides (is_disjoint x y) (Disjoint x y)
is_disjoint-decides x y low = (is_disjoint-true x y low, is_disjoint-from x y)

-- ---- how many members lie below n

pub count_below-le : (n : ℕ) (x : Attributes) → count_below x n ≤ n
unfolding count_below
count_below-le zero x = omega arith
count_below-le (suc n) x = grind (arith, count_below-le n x)

-- one attribute more
pub count_below-member : (n : ℕ) (x : Attributes) → x n ≡ true → count_below x (n + 1) ≡ count_below x n + 1
unfolding count_below
count_below-member n x member = let next : n + 1 ≡ suc n = omega arith in ap (count_below x) next ∙ grind (arith, member)

pub count_below-outside : (n : ℕ) (x : Attributes) → x n ≡ false → count_below x (n + 1) ≡ count_below x n
unfolding count_below
count_below-outside n x outside = let next : n + 1 ≡ suc n = omega arith in ap (count_below x) next ∙ grind (arith, outside)

-- only attributes below n count
pub count_below-equal : (n : ℕ) (x y : Attributes) → ((k : ℕ) → k < n → x k ≡ y k) → count_below x n ≡ count_below y n
unfolding count_below
count_below-equal zero x y same = refl
count_below-equal (suc n) x y same = grind (arith, count_below-equal n x y (λ k lt. same k (omega arith)), same n (omega arith))

-- fewer members, and a smaller count
pub count_below-within : (n : ℕ) (x y : Attributes) → IsSubset x y → count_below x n ≤ count_below y n
unfolding count_below
count_below-within zero x y within = omega arith
count_below-within (suc n) x y within = grind (arith, count_below-within n x y within, within n)

-- y has a member more
pub count_below-lt : (n : ℕ) (x y : Attributes) (k : ℕ) → IsSubset x y → k < n → x k ≡ false → y k ≡ true → count_below x n < count_below y n
unfolding count_below
count_below-lt zero x y k within lt outside member = absurd (omega arith)
count_below-lt (suc n) x y k within lt outside member =
    ⊎_elim
    (λ (last : k ≡ n). grind (arith, count_below-within n x y within, within n, ap x last, ap y last, outside, member))
    (λ (other : k ≡ n → ⊥). let h = count_below-lt n x y k within (omega arith) outside member in grind (arith, h, within n))
    (cases_eq k n)

-- the members of a union and an intersection are together those of x and of y
pub count_below-union : (n : ℕ) (x y : Attributes) → count_below (union x y) n + count_below (intersection x y) n ≡ count_below x n + count_below y n
unfolding count_below
count_below-union zero x y = refl
count_below-union (suc n) x y = grind (arith, count_below-union n x y)

pub count_below-difference : (n : ℕ) (x y : Attributes) → count_below (difference x y) n + count_below (intersection x y) n ≡ count_below x n
unfolding count_below
count_below-difference zero x y = refl
count_below-difference (suc n) x y = grind (arith, count_below-difference n x y)

-- no member below n
pub count_below-none : (n : ℕ) (x : Attributes) → ((k : ℕ) → k < n → x k ≡ false) → count_below x n ≡ 0
unfolding count_below
count_below-none zero x none = refl
count_below-none (suc n) x none = grind (arith, count_below-none n x (λ k lt. none k (omega arith)), none n (omega arith))

pub count_below-pos : (n : ℕ) (x : Attributes) (k : ℕ) → k < n → x k ≡ true → 0 < count_below x n
unfolding count_below
count_below-pos zero x k lt member = absurd (omega arith)
count_below-pos (suc n) x k lt member =
    ⊎_elim (λ (last : k ≡ n). grind (arith, ap x last, member)) (λ (other : k ≡ n → ⊥). grind (arith, count_below-pos n x k (omega arith) member)) (cases_eq k n)

-- the attributes below m, of which all are below n
pub count_below-below : (n m : ℕ) → m ≤ n → count_below (below m) n ≡ m
unfolding count_below
count_below-below zero m within_limit = omega arith
count_below-below (suc n) m within_limit =
    ⊎_elim
    (λ (all : n < m). let others : count_below (below m) n ≡ n = count_below-equal n (below m) (below n) (λ k lt. grind (arith, nat_tests)) ∙ count_below-below n n (omega arith) in grind (arith, nat_tests, others))
    (λ (low : m ≤ n). grind (arith, nat_tests, count_below-below n m low))
    (cases_lt n m)

pub count_below-only : (n i : ℕ) → i < n → count_below (only i) n ≡ 1
unfolding count_below
count_below-only zero i lt = absurd (omega arith)
count_below-only (suc n) i lt =
    ⊎_elim
    (λ (last : i ≡ n). let before : count_below (only i) n ≡ 0 = count_below-none n (only i) (λ k below. grind (arith, nat_tests, last)) in grind (arith, nat_tests, before, last))
    (λ (other : i ≡ n → ⊥). let before = count_below-only n i (omega arith) in grind (arith, nat_tests, before, other))
    (cases_eq i n)

-- a loop's step: one member added, or taken away
pub count_below-union_only : (n : ℕ) (x : Attributes) (i : ℕ) → i < n → x i ≡ false → count_below (union x (only i)) n ≡ count_below x n + 1
count_below-union_only n x i lt outside =
    let apart : count_below (intersection x (only i)) n ≡ 0 = count_below-none n (intersection x (only i)) (λ k below. grind (arith, nat_tests, ap x, outside)) in
    omega (arith, count_below-union n x (only i), count_below-only n i lt, apart)

pub count_below-difference_only : (n : ℕ) (x : Attributes) (i : ℕ) → i < n → x i ≡ true → count_below (difference x (only i)) n + 1 ≡ count_below x n
count_below-difference_only n x i lt member =
    let common : count_below (intersection x (only i)) n ≡ 1 = count_below-equal n (intersection x (only i)) (only i) (λ k below. grind (arith, nat_tests, ap x, member)) ∙ count_below-only n i lt in
    omega (arith, count_below-difference n x (only i), common)

-- every attribute below n is a member
pub count_below-full : (n : ℕ) (x : Attributes) → count_below x n ≡ n → (k : ℕ) → k < n → x k ≡ true
count_below-full n x full k lt = true_from_ne_false (x k) (λ outside. omega (arith, count_below-union_only n x k lt outside, count_below-le n (union x (only k))))

-- further attributes only add
pub count_below-mono : (n m : ℕ) (x : Attributes) → m ≤ n → count_below x m ≤ count_below x n
unfolding count_below
count_below-mono zero m x within_limit = let e : m ≡ 0 = omega arith in omega (arith, ap (count_below x) e)
count_below-mono (suc n) m x within_limit =
    ⊎_elim
    (λ (all : m ≡ suc n). omega (arith, ap (count_below x) all))
    (λ (other : m ≡ suc n → ⊥). let before = count_below-mono n m x (omega arith) in grind (arith, before))
    (cases_eq m (suc n))

-- where a member stands among those of x
pub count_below-before_member : (n m : ℕ) (x : Attributes) → m < n → x m ≡ true → count_below x m < count_below x n
count_below-before_member n m x lt member = omega (arith, count_below-member m x member, count_below-mono n (m + 1) x (omega arith))

-- no member from m on counts
pub count_below-low : (n m : ℕ) (x : Attributes) → IsSubset x (below m) → m ≤ n → count_below x n ≡ count_below x m
unfolding count_below
count_below-low zero m x low within_limit = let e : m ≡ 0 = omega arith in ap (count_below x) (sym e)
count_below-low (suc n) m x low within_limit =
    ⊎_elim
    (λ (all : m ≡ suc n). ap (count_below x) (sym all))
    (λ (other : m ≡ suc n → ⊥). let before = count_below-low n m x low (omega arith) in grind (arith, nat_tests, before, low n))
    (cases_eq m (suc n))

pub union_within : (n : ℕ) (x y : Attributes) → IsSubset x (below n) → IsSubset y (below n) → IsSubset (union x y) (below n)
union_within n x y hx hy m has = by (x m) refl has
  where
    by : (c : Bool) → x m ≡ c → (c || y m) ≡ true → nat_lt m n ≡ true
    by true e h = hx m e
    by false e h = hy m h
