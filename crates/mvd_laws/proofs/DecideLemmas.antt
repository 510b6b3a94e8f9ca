-- What can be decided of a finite relation: whether it obeys a dependency, and whether some set of attributes is such
-- a right side.
use Rattle.std.proofs.Common.{◌≡◌, ◌<◌, ◌⊎◌, ℕ, zero, suc, nat_lt, Bool, true, false, List, [], ◌∷◌, refl, sym, ap, subst, ◌∙◌, inl, inr, ⊎_elim, arith}
use mathlib.Core.Path.{fun_ext}
use Rattle.std.specs.Prelude.{Contains, nat_eq}
use Rattle.std.specs.Bool.{Decides}
use Rattle.std.specs.Cmp.Lexicographic.{pointwise, pointwise_decides}
use Rattle.std.proofs.lemmas.Bool.{cases_Bool, cases_eq, eq-eqb, eqb-true, false≢true, lt-ltb, ltb-true, true≢false}
use Rattle.std.proofs.lemmas.Bool.Decides.{nat_tests}
use Rattle.attr_sets.specs.Attributes.{Attributes, below, difference, none, only, union, IsSubset}
use Rattle.attr_sets.proofs.AttributesLemmas.{same_from_within, tell_subset}
use Rattle.dep_model.specs.Tuples.{Tuple, Relation, value_at, AgreeOn}
use Rattle.dep_model.specs.Dependencies.{ObeysFd, ObeysMvd}
use Rattle.dep_model.proofs.ListLemmas.{Contains-head, Contains-later, Contains-cases}

-- it can be decided whether something holds
abbrev pub IsDecidable : Type 0 → Type 0
IsDecidable P = P ⊎ (P → ⊥)

decide_arrow : {P Q : Type 0} → IsDecidable P → IsDecidable Q → IsDecidable (P → Q)
decide_arrow {P} {Q} first second = ⊎_elim
    (λ (p : P). ⊎_elim (λ (q : Q). inl (λ (h : P). q)) (λ (not : Q → ⊥). inr (λ (f : P → Q). not (f p))) second)
    (λ (not : P → ⊥). inl (λ (h : P). absurd (not h)))
    first

pub decide_both : {P Q : Type 0} → IsDecidable P → IsDecidable Q → IsDecidable (P × Q)
decide_both {P} {Q} first second = ⊎_elim
    (λ (p : P). ⊎_elim (λ (q : Q). inl (p, q)) (λ (not : Q → ⊥). inr (λ (h : P × Q). not h.1)) second)
    (λ (not : P → ⊥). inr (λ (h : P × Q). not h.0))
    first

pub decide_either : {P Q : Type 0} → IsDecidable P → IsDecidable Q → IsDecidable (P ⊎ Q)
decide_either {P} {Q} first second = ⊎_elim
    (λ (p : P). inl (inl p))
    (λ (not : P → ⊥). ⊎_elim (λ (q : Q). inl (inr q)) (λ (nor : Q → ⊥). inr (λ (h : P ⊎ Q). ⊎_elim not nor h)) second)
    first

pub decide_not : {P : Type 0} → IsDecidable P → IsDecidable (P → ⊥)
decide_not {P} decided = ⊎_elim (λ (p : P). inr (λ (not : P → ⊥). not p)) (λ (not : P → ⊥). inl not) decided

-- ---- members of a list
find_member : {X : Type 0} (P : X → Type 0) → ((x : X) → IsDecidable (P x)) → (xs : List X)
    → ((x : X) × Contains xs x × P x) ⊎ ((x : X) → Contains xs x → P x → ⊥)
find_member P decided [] = inr (λ x h p. absurd (omega (arith, h.1)))
find_member {X} P decided (x ∷ xs) = ⊎_elim
    (λ (p : P x). inl (x, Contains-head x xs, p))
    (λ (not : P x → ⊥). ⊎_elim
    (λ (found : (z : X) × Contains xs z × P z). inl (found.0, Contains-later x xs found.0 found.1, found.2))
    (λ (none : (z : X) → Contains xs z → P z → ⊥). inr (λ z h p. ⊎_elim
    (λ (first : z ≡ x). not (subst P first p)) (λ (later : Contains xs z). none z later p) (Contains-cases x xs z h)))
    (find_member P decided xs))
    (decided x)

decide_some : {X : Type 0} (P : X → Type 0) → ((x : X) → IsDecidable (P x)) → (xs : List X) → IsDecidable ((x : X) × Contains xs x × P x)
decide_some {X} P decided xs = ⊎_elim
    (λ (found : (x : X) × Contains xs x × P x). inl found)
    (λ (none : (x : X) → Contains xs x → P x → ⊥). inr (λ h. none h.0 h.1 h.2))
    (find_member P decided xs)

decide_each : {X : Type 0} (P : X → Type 0) → ((x : X) → IsDecidable (P x)) → (xs : List X) → IsDecidable ((x : X) → Contains xs x → P x)
decide_each {X} P decided xs = ⊎_elim
    (λ (found : (x : X) × Contains xs x × (P x → ⊥)). inr (λ all. found.2 (all found.0 found.1)))
    (λ (none : (x : X) → Contains xs x → (P x → ⊥) → ⊥). inl (λ x h. ⊎_elim (λ (p : P x). p) (λ not. absurd (none x h not)) (decided x)))
    (find_member (λ (x : X). P x → ⊥) (λ x. decide_not (decided x)) xs)

-- ---- tuples
same_value : Tuple → Tuple → Attributes
same_value t u k = pointwise nat_eq (value_at t k) (value_at u k)

same_value-decides : (t u : Tuple) (k : ℕ) → Decides (same_value t u k) (value_at t k ≡ value_at u k)
unfolding same_value
same_value-decides t u k = pointwise_decides (λ (i j : ℕ). (eqb-true i j, eq-eqb i j)) (value_at t k) (value_at u k)

decide_agree : (n : ℕ) (x : Attributes) (t u : Tuple) → IsSubset x (below n) → IsDecidable (AgreeOn x t u)
decide_agree n x t u low = ⊎_elim
    (λ out. inr (λ agree. true≢false (sym ((same_value-decides t u out.0).1 (agree out.0 out.2)) ∙ out.3)))
    (λ all. inl (λ k m. (same_value-decides t u k).0 (all k m)))
    (tell_subset n x (same_value t u) low)

-- ---- dependencies
pub decide_fd : (n : ℕ) (x y : Attributes) (r : Relation) → IsSubset x (below n) → IsSubset y (below n) → IsDecidable (ObeysFd x y r)
decide_fd n x y r x_in y_in = ⊎_elim
    (λ all. inl (λ t u t_in u_in. all t t_in u u_in))
    (λ not. inr (λ obeys. not (λ t t_in u u_in. obeys t u t_in u_in)))
    (decide_each (λ (t : Tuple). (u : Tuple) → Contains r u → AgreeOn x t u → AgreeOn y t u)
    (λ t. decide_each (λ (u : Tuple). AgreeOn x t u → AgreeOn y t u)
    (λ u. decide_arrow (decide_agree n x t u x_in) (decide_agree n y t u y_in)) r) r)

abbrev Mixes : Attributes → Attributes → Relation → Tuple → Tuple → Type 0
Mixes left rest r t u = (v : Tuple) × Contains r v × (AgreeOn left v t × AgreeOn rest v u)

pub decide_mvd : (n : ℕ) (x y : Attributes) (r : Relation) → IsSubset x (below n) → IsSubset y (below n) → IsDecidable (ObeysMvd (below n) x y r)
decide_mvd n x y r x_in y_in = ⊎_elim
    (λ all. inl (λ t u t_in u_in agree. let m = all t t_in u u_in agree in (m.0, m.1, m.2.0, m.2.1)))
    (λ not. inr (λ obeys. not (λ t t_in u u_in agree. let m = obeys t u t_in u_in agree in (m.0, m.1, (m.2, m.3)))))
    (decide_each (λ (t : Tuple). (u : Tuple) → Contains r u → AgreeOn x t u → Mixes left rest r t u)
    (λ t. decide_each (λ (u : Tuple). AgreeOn x t u → Mixes left rest r t u)
    (λ u. decide_arrow (decide_agree n x t u x_in) (decide_some (λ (v : Tuple). AgreeOn left v t × AgreeOn rest v u)
    (λ v. decide_both (decide_agree n left v t left_in) (decide_agree n rest v u rest_in)) r)) r) r)
  where
    left : Attributes
    left = union x y

    rest : Attributes
    rest = difference (below n) (union x y)

    left_in : IsSubset (union x y) (below n)
    left_in k m = ⊎_elim (λ (h : x k ≡ true). x_in k h) (λ (h : x k ≡ false). y_in k (grind (arith, m, h))) (cases_Bool (x k))

    rest_in : IsSubset (difference (below n) (union x y)) (below n)
    rest_in k m = grind (arith, m)

-- ---- attributes and sets of attributes
pub find_below : (n : ℕ) (P : ℕ → Type 0) → ((a : ℕ) → a < n → IsDecidable (P a))
    → ((a : ℕ) × (a < n) × P a) ⊎ ((a : ℕ) → a < n → P a → ⊥)
find_below zero P decided = inr (λ a low p. omega (arith, low))
find_below (suc n) P decided = ⊎_elim
    (λ (p : P n). inl (n, omega arith, p))
    (λ (not : P n → ⊥). ⊎_elim
    (λ (found : (a : ℕ) × (a < n) × P a). inl (found.0, omega (arith, found.1), found.2))
    (λ (none : (a : ℕ) → a < n → P a → ⊥). inr (λ a low p. ⊎_elim
    (λ (last : a ≡ n). not (subst P last p)) (λ (other : a ≡ n → ⊥). none a (omega (arith, low, other)) p) (cases_eq a n)))
    (find_below n P (λ a low. decided a (omega (arith, low)))))
    (decided n (omega arith))

no_less : (k : ℕ) → nat_lt k 0 ≡ true → ⊥
no_less k h = omega (arith, ltb-true k 0 h)

lower : (k n : ℕ) → (k ≡ n → ⊥) → nat_lt k (suc n) ≡ true → nat_lt k n ≡ true
lower k n other h = lt-ltb k n (omega (arith, ltb-true k (suc n) h, other))

higher : (k n : ℕ) → nat_lt k n ≡ true → nat_lt k (suc n) ≡ true
higher k n h = lt-ltb k (suc n) (omega (arith, ltb-true k n h))

with_last : (x : Attributes) (n k : ℕ) → x n ≡ true → union (difference x (only n)) (only n) k ≡ x k
with_last x n k member = elim (cases_eq k n) [
  | inl same ↦ grind (arith, nat_tests, same, ap x same, member)
  | inr other ↦ grind (arith, nat_tests, other)
]

last_in : (n : ℕ) (x : Attributes) → IsSubset x (below n) → IsSubset (union x (only n)) (below (suc n))
last_in n x low k m = elim (cases_eq k n) [
  | inl same ↦ lt-ltb k (suc n) (omega (arith, same))
  | inr other ↦ higher k n (low k (grind (arith, nat_tests, m, other)))
]

rest_low : (n : ℕ) (x : Attributes) → IsSubset x (below (suc n)) → IsSubset (difference x (only n)) (below n)
rest_low n x low k m = lower k n (λ same. last_out same m) (low k (grind (arith, m)))
  where
    last_out : k ≡ n → difference x (only n) k ≡ true → ⊥
    last_out same h = grind (arith, nat_tests, same, h)

pub find_set : (n : ℕ) (P : Attributes → Type 0) → ((x : Attributes) → IsSubset x (below n) → IsDecidable (P x))
    → ((x : Attributes) × IsSubset x (below n) × P x) ⊎ ((x : Attributes) → IsSubset x (below n) → P x → ⊥)
find_set zero P decided = ⊎_elim
    (λ (p : P none). inl (none, none_in, p))
    (λ (not : P none → ⊥). inr (λ x low p. not (subst P (same_from_within x none (λ k m. absurd (no_less k (low k m))) (λ k m. absurd (false≢true m))) p)))
    (decided none none_in)
  where
    none_in : IsSubset none (below 0)
    none_in k m = absurd (false≢true m)
find_set (suc n) P decided = ⊎_elim
    (λ (found : (x : Attributes) × IsSubset x (below n) × P x). inl (found.0, (λ k m. higher k n (found.1 k m)), found.2))
    (λ (none_less : (x : Attributes) → IsSubset x (below n) → P x → ⊥). ⊎_elim
    (λ (found : (x : Attributes) × IsSubset x (below n) × P (union x (only n))). inl (union found.0 (only n), last_in n found.0 found.1, found.2))
    (λ (none_with : (x : Attributes) → IsSubset x (below n) → P (union x (only n)) → ⊥). inr (λ x low p. ⊎_elim
    (λ (member : x n ≡ true). none_with (difference x (only n)) (rest_low n x low)
    (subst P (sym (fun_ext (λ k. with_last x n k member))) p))
    (λ (out : x n ≡ false). none_less x (λ k m. lower k n (λ same. true≢false (sym m ∙ ap x same ∙ out)) (low k m)) p)
    (cases_Bool (x n))))
    (find_set n (λ (x : Attributes). P (union x (only n))) (λ x low. decided (union x (only n)) (last_in n x low))))
    (find_set n P (λ x low. decided x (λ k m. higher k n (low k m))))
