-- Closed sets: closures and intersections of them, and which are irreducible.
use Rattle.std.proofs.Common.{◌≡◌, ℕ, ◌+◌, ◌<◌, ◌≤◌, zero, suc, true, false, List, sym, subst, ap, ◌∙◌, ◌⊎◌, inl, inr, ⊎_elim, arith}
use Rattle.std.proofs.lemmas.Bool.{true≢false, cases_eq, cases_Bool, eqb-true, ltb-true, lt-ltb}
use Rattle.std.proofs.lemmas.Bool.Decides.{nat_tests}
use Rattle.std.specs.Prelude.{All}
use Rattle.attr_sets.specs.Attributes.{Attributes, below, only, union, intersection, IsSubset, count_below}
use Rattle.attr_sets.proofs.AttributesLemmas.{same_from_within, tell_subset, count_below-le, count_below-lt, count_below-full, same_at}
use Rattle.dep_model.specs.Dependencies.{Dependency, functional_part, IsWithin}
use Rattle.dep_model.specs.Keys.{InClosure}
use Rattle.dep_model.proofs.RuleLemmas.{reflexivity_obeyed, transitivity_obeyed, fd_weaker_obeyed}
use Rattle.fd_closure.proofs.ClosureLemmas.{fd_each-from}
use Rattle.fd_closure.proofs.ClosedSets.{closure_set}
use Rattle.armstrong_rel.specs.ClosedSets.{IsClosedSet, IsIrreducible}
use Rattle.fd_closure.specs.Closures.{IsClosureOf}
use Rattle.armstrong_rel.specs.Closures.{IsIntersectionBeyond}

-- each set of attributes has a closure
abbrev pub HaveClosures : ℕ → List Dependency → Type 0
HaveClosures n ds = (x : Attributes) → IsSubset x (below n) → (c : Attributes) × IsClosureOf n ds x c

pub functional_closures : (n : ℕ) (ds : List Dependency) → All (IsWithin (below n)) ds → functional_part ds ≡ ds
    → HaveClosures n ds
functional_closures n ds within same x x_in = let found = closure_set n ds x within same x_in in
    (found.0, found.1.exact)

module _ (n : ℕ) (ds : List Dependency) where
  -- what a set determines, a larger one does
  pub closure_more : (x v : Attributes) (a : ℕ) → IsSubset x v → InClosure n ds x a → InClosure n ds v a
  closure_more x v a inside has =
      (has.0, λ r legal. fd_weaker_obeyed x (only a) v (only a) r inside (λ k m. m) (has.1 r legal))

  -- a member of a set of the universe is determined
  pub closure_member : (x : Attributes) (a : ℕ) → a < n → x a ≡ true → InClosure n ds x a
  closure_member x a low member = (
    low,
    λ r legal. reflexivity_obeyed x (only a) r
        (λ (k : ℕ) e. subst (λ (i : ℕ). x i ≡ true) (sym (eqb-true k a e)) member),
  )

  -- ---- the closure of a set is the least closed set that holds it
  pub closure_holds : (x c : Attributes) → IsSubset x (below n) → IsClosureOf n ds x c → IsSubset x c
  closure_holds x c x_in is k m = (is k).1 (closure_member x k (ltb-true k n (x_in k m)) m)

  pub closure_closed : (x c : Attributes) → IsClosureOf n ds x c → IsClosedSet n ds c
  closure_closed x c is = record {
    universe = λ k m. lt-ltb k n ((is k).0 m).0;
    closed = λ a has. (is a).1 (
      has.0,
      λ r legal. transitivity_obeyed x c (only a) r (fd_each-from n ds x c (λ (b : ℕ) m. ((is b).0 m).1) r legal)
          (has.1 r legal),
    );
  }

  pub closure_least : (x c d : Attributes) → IsClosureOf n ds x c → IsClosedSet n ds d → IsSubset x d → IsSubset c d
  closure_least x c d is closed inside k m = closed.closed k (closure_more x d k inside ((is k).0 m))

  -- a closed set is its own closure, and what is its own closure is closed
  pub closed_itself : (c : Attributes) → IsClosedSet n ds c → IsClosureOf n ds c c
  closed_itself c closed a = (
    (λ m. closure_member c a (ltb-true a n (closed.universe a m)) m),
    (λ has. closed.closed a has),
  )

  -- a set has one closure
  pub closure_same : (x c d : Attributes) → IsClosureOf n ds x c → IsClosureOf n ds x d → c ≡ d
  closure_same x c d one other = same_from_within c d (λ k m. (other k).1 ((one k).0 m)) (λ k m. (one k).1 ((other k).0 m))

  -- ---- the universe is closed, and so is the intersection of two closed sets
  pub universe_closed : IsClosedSet n ds (below n)
  universe_closed = record { universe = λ k m. m; closed = λ a has. lt-ltb a n has.0 }

  pub intersection_closed : (c d : Attributes) → IsClosedSet n ds c → IsClosedSet n ds d → IsClosedSet n ds (intersection c d)
  intersection_closed c d one other = record {
    universe = λ (k : ℕ) m. one.universe k (grind (arith, m));
    closed = λ (a : ℕ) has.
        let first = one.closed a (closure_more (intersection c d) c a (λ (k : ℕ) m. grind (arith, m)) has) in
        let second = other.closed a (closure_more (intersection c d) d a (λ (k : ℕ) m. grind (arith, m)) has) in
        grind (arith, first, second);
  }

  -- ---- one attribute more
  pub with_more : (c d : Attributes) (a : ℕ) → IsSubset c d → d a ≡ true → IsSubset (union c (only a)) d
  with_more c d a inside member k m = elim (cases_eq k a) [
    | inl same ↦ ap d same ∙ member
    | inr other ↦ inside k (grind (arith, nat_tests, m, other))
  ]

  with_universe : (c : Attributes) (a : ℕ) → IsSubset c (below n) → a < n → IsSubset (union c (only a)) (below n)
  with_universe c a inside low = with_more c (below n) a inside (lt-ltb a n low)

  -- what every closure of c with one attribute more holds, every closed set that properly holds c does
  shared_by_all : (c : Attributes) (b : ℕ) → ((a : ℕ) → a < n → c a ≡ false → InClosure n ds (union c (only a)) b)
      → (d : Attributes) → IsClosedSet n ds d → IsSubset c d → (IsSubset d c → ⊥) → d b ≡ true
  shared_by_all c b each d closed inside proper = ⊎_elim
      (λ found. closed.closed b (closure_more (union c (only found.0)) d b (with_more c d found.0 inside found.2)
      (each found.0 found.1 found.3)))
      (λ all. absurd (proper all))
      (tell_subset n d c closed.universe)

  module _ (closures : HaveClosures n ds) where
    -- what a closed set shares is in its closure with each attribute outside it
    shared_in : (c : Attributes) (b : ℕ) → IsClosedSet n ds c
        → ((d : Attributes) → IsClosedSet n ds d → IsSubset c d → (IsSubset d c → ⊥) → d b ≡ true)
        → (a : ℕ) → a < n → c a ≡ false → InClosure n ds (union c (only a)) b
    shared_in c b closed shared a low outside =
        let x_in = with_universe c a closed.universe low in
        let found = closures (union c (only a)) x_in in
        let d = found.0 in
        let holds : IsSubset (union c (only a)) d = closure_holds (union c (only a)) d x_in found.1 in
        let a_in : d a ≡ true = holds a (grind (arith, nat_tests)) in
        (found.1 b).0 (shared d (closure_closed (union c (only a)) d found.1)
        (λ (k : ℕ) m. holds k (grind (arith, m))) (λ back. true≢false (sym (back a a_in) ∙ outside)))

    -- irreducible is what is not the intersection beyond it
    pub irreducible_no_intersection : (c m : Attributes) → IsIntersectionBeyond n ds c m → IsIrreducible n ds c → m ≡ c → ⊥
    irreducible_no_intersection c m is irreducible same =
        let b = irreducible.attribute in
        let in_intersection = (is b).1 (irreducible.universe, shared_in c b irreducible.closed irreducible.shared) in
        true≢false (sym in_intersection ∙ same_at same b ∙ irreducible.outside)

    -- ---- above a closed set without an attribute there is an irreducible one without it
    -- the closure of c with some attribute below m lacks y, or none does
    tell_lacking : (c : Attributes) (y : ℕ) → IsClosedSet n ds c → (m : ℕ) → m ≤ n
        → ((a : ℕ) × (d : Attributes) × (a < n) × (c a ≡ false) × IsClosureOf n ds (union c (only a)) d × (d y ≡ false))
        ⊎ ((a : ℕ) → a < m → c a ≡ false → InClosure n ds (union c (only a)) y)
    tell_lacking c y closed zero low = inr (λ a lt outside. absurd (omega arith))
    tell_lacking c y closed (suc m) low = ⊎_elim
        inl
        (λ earlier.
        let x_in = with_universe c m closed.universe (omega arith) in
        let found = closures (union c (only m)) x_in in
        ⊎_elim
        (λ (has : found.0 y ≡ true). inr (λ a lt outside. elim (cases_eq a m) [
          | inl same ↦ subst (λ (i : ℕ). InClosure n ds (union c (only i)) y) (sym same) ((found.1 y).0 has)
          | inr other ↦ earlier a (omega arith) outside
        ]))
        (λ (lacks : found.0 y ≡ false). ⊎_elim
        (λ (inside : c m ≡ true). inr (λ a lt outside. elim (cases_eq a m) [
          | inl same ↦ absurd (true≢false (sym inside ∙ ap c (sym same) ∙ outside))
          | inr other ↦ earlier a (omega arith) outside
        ]))
        (λ (outside : c m ≡ false). inl (m, found.0, omega arith, outside, found.1, lacks))
        (cases_Bool (c m)))
        (cases_Bool (found.0 y)))
        (tell_lacking c y closed m (omega arith))

    -- the closure with an attribute more that lacks y is a larger closed set without it
    above_within : (left : ℕ) (c : Attributes) (y : ℕ) → IsClosedSet n ds c → y < n → c y ≡ false
        → n ≤ count_below c n + left → (m : Attributes) × IsIrreducible n ds m × IsSubset c m × (m y ≡ false)
    above_within zero c y closed low lacks most = absurd
        (true≢false (sym (count_below-full n c (omega (arith, most, count_below-le n c)) y low) ∙ lacks))
    above_within (suc left) c y closed low lacks most = ⊎_elim
        (λ found.
        let a = found.0 in
        let d = found.1 in
        let x_in = with_universe c a closed.universe found.2 in
        let holds : IsSubset (union c (only a)) d = closure_holds (union c (only a)) d x_in found.4 in
        let inside : IsSubset c d = λ (k : ℕ) m. holds k (grind (arith, m)) in
        let more = count_below-lt n c d a inside found.2 found.3 (holds a (grind (arith, nat_tests))) in
        let above = above_within left d y (closure_closed (union c (only a)) d found.4) low found.5 (omega arith) in
        (above.0, above.1, (λ k m. above.2 k (inside k m)), above.3))
        (λ none. (
          c,
          record {
            closed = closed;
            attribute = y;
            universe = low;
            outside = lacks;
            shared = shared_by_all
                c y none;
          },
          (λ k m. m),
          lacks,
        ))
        (tell_lacking c y closed n (omega arith))

    pub above_lacking : (c : Attributes) (y : ℕ) → IsClosedSet n ds c → y < n → c y ≡ false → (m : Attributes)
        × IsIrreducible n ds m × IsSubset c m × (m y ≡ false)
    above_lacking c y closed low lacks = above_within n c y closed low lacks (omega arith)

  -- a closed set that is not the intersection beyond it is irreducible
  pub no_intersection_irreducible : (c m : Attributes) → IsClosedSet n ds c → IsIntersectionBeyond n ds c m → (m ≡ c → ⊥)
      → IsIrreducible n ds c
  no_intersection_irreducible c m closed is differ = ⊎_elim
      (λ found.
      let fact = (is found.0).0 found.2 in
      record {
        closed = closed;
        attribute = found.0;
        universe = found.1;
        outside = found.3;
        shared = shared_by_all c
            found.0 fact.1;
      })
      (λ inside. absurd (differ (same_from_within m c inside (λ (k : ℕ) member. (is k).1 (
        ltb-true k n (closed.universe k member),
        λ a low outside. closure_member (union c (only a)) k (ltb-true k n (closed.universe k member))
            (grind (arith, member)),
      )))))
      (tell_subset n m c (λ (k : ℕ) member. lt-ltb k n ((is k).0 member).0))
