-- What a part of the left sides determines with each further attribute of them, one attribute after the
-- other.
use Rattle.std.proofs.Common.{◌≡◌, ℕ, ◌+◌, ◌<◌, ◌↔◌, true, false, List, sym, subst, inl, inr, arith}
use Rattle.std.proofs.lemmas.Bool.{cases_eq, ltb-true}
use Rattle.attr_sets.specs.Attributes.{Attributes, below, only, union, intersection, IsSubset}
use Rattle.attr_sets.proofs.AttributesLemmas.{same_at}
use Rattle.dep_model.specs.Dependencies.{Dependency}
use Rattle.dep_model.specs.Keys.{InClosure}
use Rattle.fd_closure.specs.LeftSides.{left_sides}
use Rattle.fd_closure.specs.Closures.{IsClosureOf}
use Rattle.armstrong_rel.specs.Parts.{IsSharedBeyond}

-- the same, as far as the attributes below this one
abbrev pub IsSharedBelow : ℕ → List Dependency → Attributes → ℕ → Attributes → Type 0
IsSharedBelow n ds z most m =
    (k : ℕ) → (m k ≡ true)
    ↔ (k < n) × ((b : ℕ) → b < most → left_sides ds b ≡ true → z b ≡ false → InClosure n ds (union z (only b)) k)

-- this attribute is not a further one of the left sides
pub shared_pass : (n : ℕ) (ds : List Dependency) (z m : Attributes) (a : ℕ) → (left_sides ds a ≡ true → z a ≡ false → ⊥)
    → IsSharedBelow n ds z a m → IsSharedBelow n ds z (a + 1) m
shared_pass n ds z m a not is k = (
  (λ in_m.
      let fact = (is k).0 in_m in (
        fact.0,
        λ b lt used out. elim (cases_eq b a) [
          | inl same ↦ absurd (not (subst (λ (i : ℕ). left_sides ds i ≡ true) same used) (subst (λ (i : ℕ). z i ≡ false) same out))
          | inr other ↦ fact.1 b (omega (arith, lt, other)) used out
        ],
      )),
  (λ fact. (is k).1 (fact.0, λ b lt used out. fact.1 b (omega (arith, lt)) used out)),
)

-- it is, and the closure with it is intersected
pub shared_more : (n : ℕ) (ds : List Dependency) (z more c m next : Attributes) (a : ℕ) → left_sides ds a ≡ true → z a ≡ false
    → more ≡ union z (only a) → IsClosureOf n ds more c → next ≡ intersection m c
    → IsSharedBelow n ds z a m → IsSharedBelow n ds z (a + 1) next
shared_more n ds z more c m next a used out is closure both before k =
    let exact : IsClosureOf n ds (union z (only a)) c = subst (λ (y : Attributes). IsClosureOf n ds y c) is closure in
    let here = same_at both k in (
      (λ in_next.
          let in_m : m k ≡ true = grind (arith, here, in_next) in
          let in_c : c k ≡ true = grind (arith, here, in_next) in
          let fact = (before k).0 in_m in (
            fact.0,
            λ b lt b_used b_out. elim (cases_eq b a) [
              | inl same ↦ subst (λ (i : ℕ). InClosure n ds (union z (only i)) k) (sym same) ((exact k).0 in_c)
              | inr other ↦ fact.1 b (omega (arith, lt, other)) b_used b_out
            ],
          )),
      (λ fact.
          let in_m : m k ≡ true = (before k).1 (fact.0, λ b lt b_used b_out. fact.1 b (omega (arith, lt)) b_used b_out) in
          let in_c : c k ≡ true = (exact k).1 (fact.1 a (omega arith) used out) in
          grind (arith, here, in_m, in_c)),
    )

-- all were gone through
pub shared_all : (n : ℕ) (ds : List Dependency) (z m : Attributes) → IsSubset (left_sides ds) (below n)
    → IsSharedBelow n ds z n m → IsSharedBeyond n ds z m
shared_all n ds z m low is k = (
  (λ in_m. let fact = (is k).0 in_m in (fact.0, λ b used out. fact.1 b (ltb-true b n (low b used)) used out)),
  (λ fact. (is k).1 (fact.0, λ b _ used out. fact.1 b used out)),
)
