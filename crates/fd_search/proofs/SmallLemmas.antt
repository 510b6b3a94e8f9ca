-- Minimal dependencies of few attributes on the left: what they are of all minimal ones.
use Rattle.std.proofs.Common.{◌≡◌, ◌<◌, ◌≤◌, ℕ, Bool, true, false, cond, List, [], ◌∷◌, map, filter, refl, sym, ap, subst, ◌∙◌, arith}
use Rattle.std.specs.Prelude.{All, Contains}
use Rattle.std.proofs.lemmas.Bool.{eqb-true, leb-true}
use Rattle.std.proofs.lemmas.Bool.Decides.{nat_tests}
use Rattle.std.proofs.lemmas.List.Elements.{All-contains, All-weaker}
use Rattle.std.proofs.lemmas.List.Kept.{AllPairs-filter}
use Rattle.attr_sets.specs.Attributes.{Attributes, below, count_below, only}
use Rattle.attr_sets.specs.declared.set.TheConstants.{MOST_ATTRIBUTES}
use Rattle.attr_sets.proofs.AttributesLemmas.{count_below-le, count_below-low}
use Rattle.dep_model.specs.Dependencies.{Dependency, fd, left_of, IsWithin}
use Rattle.dep_model.specs.Deps.{dependencies_of, dependency_of}
use Rattle.dep_model.specs.Tuples.{Relation}
use Rattle.dep_model.specs.declared.dep.Dep.{Dep}
use Rattle.dep_model.proofs.DistinctLemmas.{filter-keeps, filter-member}
use Rattle.fd_discovery.specs.Minimal.{AreAllMinimal, IsMinimalFd, IsMinimalWithin, Precedes}
use Rattle.dep_model.proofs.ListLemmas.{All-members}
use Rattle.fd_search.specs.Small.{AreAllSmall, IsSmallFd, IsSmallWithin, has_few}

-- ---- of a bound that is the width, all
pub minimal_small : (n : ℕ) (r : Relation) (x : Attributes) (a : ℕ) → IsMinimalWithin n r x a → IsSmallWithin n n r x a
minimal_small n r x a minimal = record { minimal = minimal; within_limit = count_below-le n x }

pub all_minimal : (n : ℕ) (r : Relation) (ds : List Dependency) → AreAllSmall n n r ds → AreAllMinimal n r ds
all_minimal n r ds are = record {
  each = All-weaker (IsSmallFd n n r) (IsMinimalFd n r) (λ d (x, a, is, small). (x, a, is, small.minimal)) ds are.each;
  all = λ x a minimal. are.all x a (minimal_small n r x a minimal);
  ascending = are.ascending;
}

-- ---- those with few attributes of all minimal ones
abbrev few_of : ℕ → List Dep → List Dep
few_of most ds = filter (λ d. has_few most (dependency_of d)) ds

few_next : (most : ℕ) (d : Dep) (ds : List Dep) (b : Bool)
    → dependencies_of (few_of most ds) ≡ filter (has_few most) (dependencies_of ds)
    → dependencies_of (cond b (d ∷ few_of most ds) (few_of most ds))
    ≡ cond b (dependency_of d ∷ filter (has_few most) (dependencies_of ds)) (filter (has_few most) (dependencies_of ds))
few_next most d ds true rest = ap (λ (es : List Dependency). dependency_of d ∷ es) rest
few_next most d ds false rest = rest

few_mapped : (most : ℕ) (ds : List Dep) → dependencies_of (few_of most ds) ≡ filter (has_few most) (dependencies_of ds)
few_mapped most [] = refl
few_mapped most (d ∷ ds) = few_next most d ds (has_few most (dependency_of d)) (few_mapped most ds)

module _ (n most : ℕ) (r : Relation) (n_in : n ≤ MOST_ATTRIBUTES) where
  few_counted : (x : Attributes) (a : ℕ) → IsMinimalWithin n r x a → count_below x MOST_ATTRIBUTES ≡ count_below x n
  few_counted x a minimal = count_below-low MOST_ATTRIBUTES n x minimal.left n_in

  few_small : (d : Dependency) → IsMinimalFd n r d → has_few most d ≡ true → IsSmallFd n most r d
  few_small d (x, a, is, minimal) few =
      let here : has_few most (fd x (only a)) ≡ true = ap (has_few most) (sym is) ∙ few in
      let within_limit = leb-true (count_below x MOST_ATTRIBUTES) most here in
      (x, a, is, record { minimal = minimal; within_limit = omega (arith, within_limit, few_counted x a minimal) })

  small_few : (x : Attributes) (a : ℕ) → IsSmallWithin n most r x a → has_few most (fd x (only a)) ≡ true
  small_few x a small =
      let counted = few_counted x a small.minimal in
      let within_limit = small.within_limit in
      grind (arith, nat_tests, counted, within_limit)

  few_all : (ds : List Dependency) → AreAllMinimal n r ds → AreAllSmall n most r (filter (has_few most) ds)
  few_all ds are = record {
    each = All-members (IsSmallFd n most r) (filter (has_few most) ds) (λ d listed.
        let (among, few) = filter-member (has_few most) ds d listed in
        few_small d (All-contains (IsMinimalFd n r) ds d are.each among) few);
    all = λ x a small. filter-keeps (has_few most) ds (fd x (only a)) (are.all x a small.minimal) (small_few x a small);
    ascending = AllPairs-filter Precedes (has_few most) ds are.ascending;
  }

  pub few_of_all : (ds few : List Dep) → few ≡ filter (λ d. has_few most (dependency_of d)) ds
      → AreAllMinimal n r (dependencies_of ds) → AreAllSmall n most r (dependencies_of few)
  few_of_all ds few is are =
      subst (AreAllSmall n most r) (sym (ap dependencies_of is ∙ few_mapped most ds)) (few_all (dependencies_of ds) are)

-- ---- within the columns
pub small_within : (n most : ℕ) (r : Relation) (ds : List Dependency) → AreAllSmall n most r ds
    → All (IsWithin (below n)) ds
small_within n most r ds are = All-weaker (IsSmallFd n most r) (IsWithin (below n)) (λ d h. within d h) ds are.each
  where
    within : (d : Dependency) → IsSmallFd n most r d → IsWithin (below n) d
    within d (x, a, is, small) = subst (λ (e : Dependency). IsWithin (below n) e) (sym is) (
      small.minimal.left,
      (λ k has. subst (λ (i : ℕ). below n i ≡ true) (sym (eqb-true k a has))
          (let low : a < n = small.minimal.right in grind (arith, nat_tests, low))),
    )
