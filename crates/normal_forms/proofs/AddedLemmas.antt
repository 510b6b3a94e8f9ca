-- The attributes of a scheme that are in no given left side add only themselves to what is determined.
use Rattle.std.proofs.Common.{◌≡◌, ℕ, ◌≤◌, true, false, List, [], ◌∷◌, get_or, refl, sym, ap, subst, ◌∙◌, inl, inr, ⊎_elim, arith}
use mathlib.Core.Path.{fun_ext}
use Rattle.std.proofs.lemmas.Bool.{true≢false, ltb-true, lt-ltb, or_cases}
use Rattle.std.proofs.lemmas.Bool.Decides.{nat_tests}
use Rattle.std.proofs.lemmas.List.Elements.{All-filter, All-contains, All-contains_itself}
use Rattle.std.specs.Prelude.{All, Contains}
use Rattle.attr_sets.specs.Attributes.{Attributes, below, only, union, intersection, IsSubset}
use Rattle.dep_model.specs.declared.dep.Dep.{Dep}
use Rattle.dep_model.specs.Dependencies.{Dependency, fd, mvd, is_fd, functional_part, left_of, IsWithin}
use Rattle.dep_model.specs.Deps.{dependency_of, dependencies_of, IsDepWithin}
use Rattle.dep_model.specs.Keys.{InClosure}
use Rattle.dep_model.proofs.RuleLemmas.{reflexivity_obeyed, fd_weaker_obeyed}
use Rattle.dep_model.proofs.DepLemmas.{dependencies_all-from}
use Rattle.fd_closure.specs.FunctionallyClosed.{IsFunctionallyClosed}
use Rattle.fd_closure.proofs.ClosedSets.{IsClosure, closure_set, closed-to, closed-from}
use Rattle.fd_closure.specs.LeftSides.{left_sides, InLeftSideWithin}
use Rattle.fd_closure.proofs.LeftSideLemmas.{left_sides_in}
use Rattle.dep_basis.proofs.RestLemmas.{closure_rest}
use Rattle.normal_forms.specs.Adding.{AddOnlyThemselves}
use Rattle.attr_sets.proofs.AttributesLemmas.{same_at}

-- ---- the functional part
-- the functional part of a list is its own functional part
pub functional_twice : (ds : List Dependency) → functional_part (functional_part ds) ≡ functional_part ds
functional_twice [] = refl
functional_twice (fd x y ∷ ds) = ap (λ (es : List Dependency). fd x y ∷ es) (functional_twice ds)
functional_twice (mvd x y ∷ ds) = functional_twice ds

-- and its members lie where those of the list do
pub functional_within : (n : ℕ) (ds : List Dep) → All (IsDepWithin (below n)) ds → All (IsWithin (below n)) (functional_part (dependencies_of ds))
functional_within n ds within = All-filter is_fd (IsWithin (below n)) (dependencies_of ds) (dependencies_all-from (IsWithin (below n)) ds within)

-- and a left side among them is one of the list
pub functional_side : (ds : List Dependency) (reach : Attributes) (a : ℕ) → InLeftSideWithin reach (functional_part ds) a → left_sides ds a ≡ true
functional_side ds reach a h = (left_sides_in ds a).1 (h.0, All-contains (Contains ds) (functional_part ds) h.0 (All-filter is_fd (Contains ds) ds (All-contains_itself ds)) h.1, h.3)

-- ---- closures
-- a set determines its members
pub closure_member : (n : ℕ) (ds : List Dependency) (x : Attributes) (a : ℕ) → IsSubset x (below n) → x a ≡ true → InClosure n ds x a
closure_member n ds x a low m = (ltb-true a n (low a m), λ r legal. reflexivity_obeyed x (only a) r (λ (k : ℕ) e. grind (arith, nat_tests, e, m)))

-- a larger set determines more
pub closure_more : (n : ℕ) (ds : List Dependency) (x y : Attributes) (a : ℕ) → IsSubset x y → InClosure n ds x a → InClosure n ds y a
closure_more n ds x y a inside h = (h.0, λ r legal. fd_weaker_obeyed x (only a) y (only a) r inside (λ (k : ℕ) m. m) (h.1 r legal))

-- the subsets of a scheme have of a set what they have of its part in the scheme
intersection_scheme : (scheme l whole x : Attributes) → IsSubset x scheme → whole ≡ intersection l scheme → intersection x l ≡ intersection x whole
intersection_scheme scheme l whole x x_in is = fun_ext (λ k. grind (arith, same_at is k, x_in k))

-- ---- by all dependencies
pub added_by_all : (n : ℕ) (ds : List Dep) (scheme l whole : Attributes) → n ≤ 128 → All (IsDepWithin (below n)) ds → IsSubset scheme (below n)
    → All (λ d. IsSubset (left_of (dependency_of d)) l) ds → whole ≡ intersection l scheme → AddOnlyThemselves n (dependencies_of ds) scheme whole
added_by_all n ds scheme l whole within_limit within low lefts is x a x_in h out =
    let there : InClosure n (dependencies_of ds) (intersection x l) a =
    ⊎_elim
    (λ inside. absurd (true≢false (sym inside.1 ∙ out)))
    (λ closed. closed)
    ((closure_rest n ds l x within_limit within lefts (λ k m. low k (x_in k m)) a).0 h) in
    subst (λ (v : Attributes). InClosure n (dependencies_of ds) v a) (intersection_scheme scheme l whole x x_in is) there

-- ---- by functional dependencies
-- the set has all left sides that lie within what the scheme determines
module _ (n : ℕ) (ds : List Dependency) (scheme reach l x : Attributes) (within : All (IsWithin (below n)) ds) (same : functional_part ds ≡ ds) (low : IsSubset scheme (below n))
    (reaches : (a : ℕ) → InClosure n ds scheme a → reach a ≡ true) (lefts : All (λ d. IsSubset (left_of d) reach → IsSubset (left_of d) l) ds) (x_in : IsSubset x scheme) where
  part_low : IsSubset (intersection x l) (below n)
  part_low k m = low k (x_in k (grind (arith, m)))

  -- no dependency leads out of x with the closure c of what it has of l
  module _ (c : Attributes) (closure : IsClosure n ds (intersection x l) c) where
    in_reach : (j : ℕ) → union x c j ≡ true → reach j ≡ true
    in_reach j m = elim (or_cases (x j) (c j) m) [
      | inl in_x ↦ reaches j (closure_member n ds scheme j low (x_in j in_x))
      | inr in_c ↦ reaches j (closure_more n ds (intersection x l) scheme j (λ k h. x_in k (grind (arith, h))) ((closure.exact j).0 in_c))
    ]

    in_closure : (j : ℕ) → l j ≡ true → union x c j ≡ true → c j ≡ true
    in_closure j in_l m = elim (or_cases (x j) (c j) m) [
      | inl in_x ↦ closure.holds j (grind (arith, in_l, in_x))
      | inr in_c ↦ in_c
    ]

    c_closed : (a : ℕ) → InClosure n ds c a → c a ≡ true
    c_closed a h = (closure.exact a).1 (
      h.0,
      λ r legal t u t_in u_in agree.
          h.1 r legal t u t_in u_in (λ (k : ℕ) m. ((closure.exact k).0 m).1 r legal t u t_in u_in agree k (grind (arith, nat_tests))),
    )

    c_is_closed : IsFunctionallyClosed ds c
    c_is_closed = closed-to n ds c within same c_closed

    both_closed : IsFunctionallyClosed ds (union x c)
    both_closed k d short inside =
        let left = left_of (get_or ds k d) in
        let in_l : IsSubset left l = lefts k d short (λ j m. in_reach j (inside j m)) in
        let right = c_is_closed k d short (λ j m. in_closure j (in_l j m) (inside j m)) in
        λ j m. grind (arith, right j m)

  closure_kept : (a : ℕ) → InClosure n ds x a → x a ≡ false → InClosure n ds (intersection x l) a
  closure_kept a h out =
      let found = closure_set n ds (intersection x l) within same part_low in
      let c = found.0 in
      let both_low : IsSubset (union x c) (below n) = λ k m. elim (or_cases (x k) (c k) m) [
        | inl in_x ↦ low k (x_in k in_x)
        | inr in_c ↦ lt-ltb k n ((found.1.exact k).0 in_c).0
      ] in
      let member : union x c a ≡ true = closed-from n ds (union x c) within same both_low (both_closed c found.1) a (closure_more n ds x (union x c) a (λ k m. grind (arith, m)) h) in
      (found.1.exact a).0 (grind (arith, member, out))

pub added_functional : (n : ℕ) (ds : List Dependency) (scheme reach l whole : Attributes) → All (IsWithin (below n)) ds → functional_part ds ≡ ds → IsSubset scheme (below n)
    → ((a : ℕ) → InClosure n ds scheme a → reach a ≡ true) → All (λ d. IsSubset (left_of d) reach → IsSubset (left_of d) l) ds → whole ≡ intersection l scheme → AddOnlyThemselves n ds scheme whole
added_functional n ds scheme reach l whole within same low reaches lefts is x a x_in h out =
    subst (λ (v : Attributes). InClosure n ds v a) (intersection_scheme scheme l whole x x_in is)
    (closure_kept n ds scheme reach l x within same low reaches lefts x_in a h out)
