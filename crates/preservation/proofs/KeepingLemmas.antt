-- What the dependencies inside the schemes of a plan give, and sets that they do not lead out of.
use Rattle.std.proofs.Common.{◌⊎◌, inl, inr, ◌≡◌, ℕ, ◌↔◌, true, List}
use Rattle.std.proofs.Common.{get_or, arith, subst, sym}
use Rattle.std.proofs.lemmas.Bool.{cases_Bool, ltb-true}
use Rattle.std.proofs.lemmas.Bool.Decides.{nat_tests}
use Rattle.std.specs.Prelude.{All, Contains}
use Rattle.attr_sets.specs.Attributes.{Attributes, below, only, union, intersection, IsSubset}
use Rattle.dep_model.specs.Tuples.{Relation}
use Rattle.dep_model.specs.Dependencies.{Dependency, fd, ObeysFd, functional_part}
use Rattle.dep_model.specs.Implication.{Implies}
use Rattle.dep_model.specs.TwoTuples.{two_tuples}
use Rattle.dep_model.proofs.RuleLemmas.{fd_weaker_obeyed, reflexivity_obeyed, transitivity_obeyed}
use Rattle.dep_model.proofs.TwoTupleLemmas.{two_tuples-over, two_tuples_fd-to, two_tuples_fd-from}
use Rattle.fd_closure.proofs.ClosureLemmas.{fd_each-from, fd_added}
use Rattle.preservation.specs.SchemeClosures.{IsClosureWithin}
use Rattle.preservation.specs.Keeping.{IsInside, ObeysInside, FollowsInside, InKeptClosure}
use Rattle.preservation.specs.Keeping.{ShowsLost, AgreesOnLoss}
use Rattle.preservation.specs.FunctionallyClosed.{IsFunctionallyClosedIn, IsKeptClosure}
use Rattle.attr_sets.proofs.AttributesLemmas.{same_at}

-- ---- inside a scheme
pub inside_of : (plan : List Attributes) (scheme x y : Attributes) → Contains plan scheme → IsSubset (union x y) scheme
    → IsInside plan x y
inside_of plan scheme x y at within = (at.0, scheme, at.1, at.2, within)

-- a part determines what is known of it
pub inside_implied : (n : ℕ) (ds : List Dependency) (scheme part closed : Attributes) → IsClosureWithin n ds scheme part closed
    → Implies n (functional_part ds) (fd part closed)
inside_implied n ds scheme part closed known =
    fd_each-from n (functional_part ds) part closed (λ (a : ℕ) m. ((known.closure a).0 m).1.1)

-- and has it
pub part_inside : (n : ℕ) (ds : List Dependency) (scheme part closed : Attributes) → IsClosureWithin n ds scheme part closed
    → IsSubset part closed
part_inside n ds scheme part closed known a m =
    let in_scheme : scheme a ≡ true = known.within a m in
    let itself : Implies n (functional_part ds) (fd part (only a)) =
    (λ r legal. reflexivity_obeyed part (only a) r (λ (k : ℕ) h. grind (arith, nat_tests, h, m))) in
    (known.closure a).1 (in_scheme, (ltb-true a n (known.universe a in_scheme), itself))

-- what a scheme adds to a set follows from the dependencies inside it
pub added_follows : (n : ℕ) (ds : List Dependency) (plan : List Attributes) (scheme c part closed result : Attributes)
    (r : Relation) → IsClosureWithin n ds scheme part closed → IsSubset part c → result ≡ union c closed
    → Contains plan scheme → ObeysInside n ds plan r → ObeysFd c result r
added_follows n ds plan scheme c part closed result r known begins is_result at inside =
    let within : IsSubset (union part closed) scheme = (λ (k : ℕ) m. elim (cases_Bool (part k)) [
      | inl of_part ↦ known.within k of_part
      | inr not_part ↦ ((known.closure k).0 (grind (arith, not_part, m))).0
    ]) in
    let obeys : ObeysFd part closed r = inside.obeys part closed (inside_of plan scheme part closed at within)
    (inside_implied n ds scheme part closed known) in
    fd_weaker_obeyed c (union c closed) c result r (λ (k : ℕ) m. m) (λ (k : ℕ) m. grind (arith, same_at is_result k, m))
    (fd_added part closed c r begins obeys)

-- what a part of the set determines inside the scheme is added
pub added_closes_functionally : (n : ℕ) (ds : List Dependency) (scheme c part closed result : Attributes)
    → IsClosureWithin n ds scheme part closed → IsSubset (intersection c scheme) closed → result ≡ union c closed
    → IsFunctionallyClosedIn n ds scheme c result
added_closes_functionally n ds scheme c part closed result known covers is_result x y within implied inside a m =
    let in_scheme : scheme a ≡ true = within a (grind (arith, m)) in
    let x_in : IsSubset x closed = (λ (k : ℕ) h. covers k (grind (arith, inside k h, within k (grind (arith, h))))) in
    let follows : Implies n (functional_part ds) (fd part (only a)) = (λ r legal.
    transitivity_obeyed part x (only a) r
    (fd_weaker_obeyed part closed part x r (λ (k : ℕ) h. h) x_in (inside_implied n ds scheme part closed known r legal))
    (fd_weaker_obeyed x y x (only a) r (λ (k : ℕ) h. h) (λ (k : ℕ) h. grind (arith, nat_tests, h, m))
    (implied r legal))) in
    let in_closed : closed a ≡ true =
    (known.closure a).1 (in_scheme, (ltb-true a n (known.universe a in_scheme), follows)) in
    grind (arith, same_at is_result a, in_closed)

-- ---- a set that no scheme adds to
-- the two tuples that agree exactly on it obey the dependencies inside the schemes
pub functionally_closed_inside : (n : ℕ) (ds : List Dependency) (plan : List Attributes) (c : Attributes)
    → All (λ scheme. IsSubset scheme (below n)) plan
    → All (λ scheme. IsFunctionallyClosedIn n ds scheme c c) plan → ObeysInside n ds plan (two_tuples n c)
functionally_closed_inside n ds plan c universe is_closed = record {
  over = two_tuples-over n c;
  obeys = λ x y at implied.
      let scheme = get_or plan at.0 at.1 in
      let within : IsSubset (union x y) scheme = subst (IsSubset (union x y)) (sym at.3) at.4 in
      two_tuples_fd-from n c x y (λ (k : ℕ) m. universe at.0 at.1 at.2 k (within k (grind (arith, m))))
      (λ (k : ℕ) m. universe at.0 at.1 at.2 k (within k (grind (arith, m))))
      (λ inside. is_closed at.0 at.1 at.2 x y within implied inside);
}

-- ---- exactly
-- a set that holds x, follows from it, and whose two tuples obey what is inside the schemes, is its closure
pub functionally_closed_exactly : (n : ℕ) (ds : List Dependency) (plan : List Attributes) (x c : Attributes) → IsSubset x (below n)
    → IsSubset c (below n) → IsSubset x c
    → FollowsInside n ds plan x c → ObeysInside n ds plan (two_tuples n c) → (a : ℕ)
    → (c a ≡ true) ↔ InKeptClosure n ds plan x a
functionally_closed_exactly n ds plan x c universe within grows follows inside a = (
  (λ m. (
    ltb-true a n (within a m),
    (λ r obeys. fd_weaker_obeyed x c x (only a) r (λ (k : ℕ) h. h)
        (λ (k : ℕ) h. grind (arith, nat_tests, h, m)) (follows r obeys)),
  )),
  (λ kept. two_tuples_fd-to n c x (only a) universe (λ (k : ℕ) h. grind (arith, nat_tests, h, kept.0))
      (kept.1 (two_tuples n c) inside) grows a (grind (arith, nat_tests))),
)

-- all that follows from a set follows from it
pub kept_follows : (n : ℕ) (ds : List Dependency) (plan : List Attributes) (x c : Attributes) → IsKeptClosure n ds plan x c
    → FollowsInside n ds plan x c
kept_follows n ds plan x c all r inside t u t_in u_in agree k m =
    ((all.closure k).0 m).1 r inside t u t_in u_in agree k (grind (arith, nat_tests))

-- ---- what a closure decides
pub holds_follows : (n : ℕ) (ds : List Dependency) (plan : List Attributes) (x y c : Attributes)
    → FollowsInside n ds plan x c → IsSubset y c → FollowsInside n ds plan x y
holds_follows n ds plan x y c follows within r inside =
    fd_weaker_obeyed x c x y r (λ (k : ℕ) h. h) within (follows r inside)

-- what a closure lacks, the two tuples that agree exactly on it break
pub shows_lost : (n : ℕ) (ds : List Dependency) (plan : List Attributes) (x y c : Attributes) → IsSubset x (below n)
    → IsSubset y (below n)
    → ObeysInside n ds plan (two_tuples n c) → ((a : ℕ) → (c a ≡ true) ↔ InKeptClosure n ds plan x a) → (IsSubset y c → ⊥)
    → AgreesOnLoss n ds plan x y c
shows_lost n ds plan x y c x_in y_in inside closure beyond = record {
  closure = closure;
  shows = two_tuples_show n ds plan x y c x_in y_in inside closure beyond;
}
  where
    two_tuples_show : (n : ℕ) (ds : List Dependency) (plan : List Attributes) (x y c : Attributes) → IsSubset x (below n)
        → IsSubset y (below n)
        → ObeysInside n ds plan (two_tuples n c) → ((a : ℕ) → (c a ≡ true) ↔ InKeptClosure n ds plan x a)
        → (IsSubset y c → ⊥)
        → ShowsLost n ds plan x y (two_tuples n c)
    two_tuples_show n ds plan x y c x_in y_in inside closure beyond = record {
      inside = inside;
      breaks = λ obeys. beyond (two_tuples_fd-to n c x y x_in y_in obeys
          (λ (k : ℕ) m. (closure k).1 (
            ltb-true k n (x_in k m),
            (λ r obeyed t u t_in u_in agree j h. agree j (grind (arith, nat_tests, h, m))),
          )));
    }

-- a search that does not find y has found all
pub lacking_all : (n : ℕ) (ds : List Dependency) (plan : List Attributes) (x y c : Attributes)
    → IsSubset y c ⊎ IsKeptClosure n ds plan x c → (IsSubset y c → ⊥) → IsKeptClosure n ds plan x c
lacking_all n ds plan x y c (inl within) beyond = absurd (beyond within)
lacking_all n ds plan x y c (inr all) beyond = all

-- so where a search does not find y, it has found all that shows the loss
pub lacking_lost : (n : ℕ) (ds : List Dependency) (plan : List Attributes) (x y c : Attributes) → IsSubset x (below n)
    → IsSubset y (below n) → IsSubset y c ⊎ IsKeptClosure n ds plan x c → (IsSubset y c → ⊥) → AgreesOnLoss n ds plan x y c
lacking_lost n ds plan x y c x_in y_in (inl within) beyond = absurd (beyond within)
lacking_lost n ds plan x y c x_in y_in (inr all) beyond =
    shows_lost n ds plan x y c x_in y_in all.inside all.closure beyond
