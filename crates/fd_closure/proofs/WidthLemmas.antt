-- Schemes that are too wide to be searched, and closures that begin with those of parts.
use Rattle.std.proofs.Common.{◌≡◌, ℕ, ◌≤◌, ◌↔◌, true, List, inl, inr, arith}
use Rattle.std.proofs.lemmas.Bool.{ltb-true, or_cases}
use Rattle.std.proofs.lemmas.Bool.Decides.{nat_tests}
use Rattle.attr_sets.specs.Attributes.{Attributes, below, only, union, intersection, IsSubset, count_below}
use Rattle.attr_sets.specs.declared.set.TheConstants.{MOST_ATTRIBUTES}
use Rattle.attr_sets.proofs.AttributesLemmas.{count_below-within}
use Rattle.dep_model.specs.Dependencies.{Dependency}
use Rattle.dep_model.specs.Keys.{InClosure}
use Rattle.dep_model.proofs.RuleLemmas.{reflexivity_obeyed, fd_weaker_obeyed}
use Rattle.fd_closure.specs.LeftSides.{left_sides, IsWideScheme}
use Rattle.fd_closure.specs.declared.left_sides.TheConstants.{WIDEST_SEARCHED}

-- ---- closures
pub closure_begins : (n : ℕ) (ds : List Dependency) (x more c : Attributes) → IsSubset x (below n) → ((a : ℕ) → (c a ≡ true) ↔ InClosure n ds x a)
    → (a : ℕ) → InClosure n ds (union c more) a ↔ InClosure n ds (union x more) a
closure_begins n ds x more c low closure a = (
  (λ h. (
    h.0,
    λ r legal t u t_in u_in agree.
        h.1 r legal t u t_in u_in (λ k m. elim (or_cases (c k) (more k) m) [
          | inl in_c ↦ ((closure k).0 in_c).1 r legal t u t_in u_in (λ j l. agree j (grind (arith, l))) k (grind (arith, nat_tests))
          | inr in_more ↦ agree k (grind (arith, in_more))
        ]),
  )),
  (λ h. (
    h.0,
    λ r legal. fd_weaker_obeyed (union x more) (only a) (union c more) (only a) r
        (λ k m. elim (or_cases (x k) (more k) m) [
          | inl in_x ↦ let in_c = (closure k).1 (ltb-true k n (low k in_x), λ q _. reflexivity_obeyed x (only k) q (λ (j : ℕ) e. grind (arith, nat_tests, e, in_x))) in grind (arith, in_c)
          | inr in_more ↦ grind (arith, in_more)
        ])
        (λ k m. m) (h.1 r legal),
  )),
)

-- ---- widths
pub wider : (ds : List Dependency) (x y : Attributes) → IsSubset x y → IsWideScheme ds x → IsWideScheme ds y
wider ds x y inside wide =
    omega (arith, wide, count_below-within MOST_ATTRIBUTES (intersection x (left_sides ds)) (intersection y (left_sides ds)) (λ k m. grind (arith, m, inside k)))

pub few_never_wide : (ds : List Dependency) (scheme : Attributes) → count_below (left_sides ds) MOST_ATTRIBUTES ≤ WIDEST_SEARCHED → IsWideScheme ds scheme → ⊥
few_never_wide ds scheme few wide =
    absurd (omega (arith, few, wide, count_below-within MOST_ATTRIBUTES (intersection scheme (left_sides ds)) (left_sides ds) (λ k m. grind (arith, m))))
