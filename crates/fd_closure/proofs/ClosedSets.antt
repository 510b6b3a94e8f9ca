-- Closed sets: the closure of a set by functional dependencies, to which right sides are added until none
-- leads out.
use Rattle.std.proofs.Common.{◌≡◌, ℕ, ◌+◌, ◌<◌, ◌≤◌, ◌↔◌, ◌⊎◌, zero, suc, true, false, List, [], ◌∷◌, get_or, sym, ap, subst, ◌∙◌, inl, inr, ⊎_elim, arith}
use Rattle.std.proofs.lemmas.Bool.{true≢false, cases_eq, ltb-true, lt-ltb}
use Rattle.std.proofs.lemmas.Bool.Decides.{nat_tests}
use Rattle.std.proofs.lemmas.List.Elements.{All-nil, All-cons, All-head, All-tail, All-contains, filter_passes}
use Rattle.std.specs.Prelude.{All, Contains}
use Rattle.attr_sets.specs.Attributes.{Attributes, below, only, union, IsSubset, count_below}
use Rattle.attr_sets.proofs.AttributesLemmas.{tell_subset, count_below-le, count_below-lt}
use Rattle.dep_model.specs.Dependencies.{Dependency, fd, mvd, Obeys, is_fd, functional_part, left_of, right_of, IsWithin, LeadsOut}
use Rattle.dep_model.specs.Implication.{IsLegal, Implies}
use Rattle.dep_model.specs.Keys.{InClosure}
use Rattle.dep_model.specs.TwoTuples.{two_tuples}
use Rattle.dep_model.proofs.ListLemmas.{Contains-head, Contains-later}
use Rattle.dep_model.proofs.PreservationLemmas.{fd-obeyed}
use Rattle.dep_model.proofs.RuleLemmas.{reflexivity_obeyed, transitivity_obeyed, fd_weaker_obeyed}
use Rattle.dep_model.proofs.TwoTupleLemmas.{two_tuples-over, two_tuples_fd-to, two_tuples_fd-from}
use Rattle.fd_closure.specs.FunctionallyClosed.{IsFunctionallyClosed}
use Rattle.fd_closure.proofs.ClosureLemmas.{fd_each-to, fd_added}

-- ---- functional dependencies
pub all_functional : (ds : List Dependency) → functional_part ds ≡ ds → All (λ d. is_fd d ≡ true) ds
all_functional ds same = subst (λ (es : List Dependency). All (λ d. is_fd d ≡ true) es) same (filter_passes is_fd ds)

-- ---- whether a dependency leads out of a set
-- an attribute of the right side beyond the set
pub lead_attribute : (n : ℕ) (c : Attributes) (d : Dependency) → IsWithin (below n) d → LeadsOut c d → (k : ℕ) × (k < n) × (right_of d k ≡ true) × (c k ≡ false)
lead_attribute n c d within out = ⊎_elim (λ found. found) (λ all. absurd (out.beyond all)) (tell_subset n (right_of d) c within.1)

pub tell_lead : (n : ℕ) (c : Attributes) (d : Dependency) → IsWithin (below n) d → LeadsOut c d ⊎ (IsSubset (left_of d) c → IsSubset (right_of d) c)
tell_lead n c d within =
    ⊎_elim
    (λ out. inr (λ inside. absurd (true≢false (sym (inside out.0 out.2) ∙ out.3))))
    (λ inside. ⊎_elim
    (λ out. inl (record { inside = inside; beyond = λ all. true≢false (sym (all out.0 out.2) ∙ out.3) }))
    (λ all. inr (λ _. all))
    (tell_subset n (right_of d) c within.1))
    (tell_subset n (left_of d) c within.0)

-- some dependency of a list leads out, or none does
pub tell_functionally_closed : (n : ℕ) (c : Attributes) (ds : List Dependency) → All (IsWithin (below n)) ds → ((d : Dependency) × Contains ds d × LeadsOut c d) ⊎ IsFunctionallyClosed ds c
tell_functionally_closed n c [] within = inr (All-nil (λ (d : Dependency). IsSubset (left_of d) c → IsSubset (right_of d) c))
tell_functionally_closed n c (d ∷ ds) within =
    ⊎_elim
    (λ out. inl (d, Contains-head d ds, out))
    (λ stays. ⊎_elim
    (λ found. inl (found.0, Contains-later d ds found.0 found.1, found.2))
    (λ is_closed. inr (All-cons (λ (e : Dependency). IsSubset (left_of e) c → IsSubset (right_of e) c) d ds stays is_closed))
    (tell_functionally_closed n c ds (All-tail (IsWithin (below n)) d ds within)))
    (tell_lead n c d (All-head (IsWithin (below n)) d ds within))

-- ---- sets between x and its closure
record IsBetween (n : ℕ) (ds : List Dependency) (x c : Attributes) : Type 0 where
  universe : IsSubset c (below n)
  holds : IsSubset x c
  implied : Implies n ds (fd x c)

IsBetween-refl : (n : ℕ) (ds : List Dependency) (x : Attributes) → IsSubset x (below n) → IsBetween n ds x x
IsBetween-refl n ds x x_in = record {
  universe = x_in;
  holds = λ k m. m;
  implied = λ r legal. reflexivity_obeyed x x r (λ k m. m);
}

-- the right side of a dependency that leads out is added
IsBetween-union : (n : ℕ) (ds : List Dependency) (x c : Attributes) (d : Dependency) → IsWithin (below n) d → is_fd d ≡ true → Contains ds d → LeadsOut c d → IsBetween n ds x c → IsBetween n ds x (union c (right_of d))
IsBetween-union n ds x c d within is given out before = record {
  universe = λ k m. grind (arith, m, before.universe k, within.1 k);
  holds = λ k m. grind (arith, before.holds k m);
  implied = λ r legal.
      let obeys = fd-obeyed n d r is (All-contains (λ (e : Dependency). Obeys n e r) ds d legal.obeys given) in
      transitivity_obeyed x c (union c (right_of d)) r (before.implied r legal) (fd_added (left_of d) (right_of d) c r out.inside obeys);
}

-- it had one attribute less
count_below-added : (n : ℕ) (c : Attributes) (d : Dependency) → IsWithin (below n) d → LeadsOut c d → count_below c n < count_below (union c (right_of d)) n
count_below-added n c d within out =
    let attribute = lead_attribute n c d within out in
    count_below-lt n c (union c (right_of d)) attribute.0 (λ (k : ℕ) m. grind (arith, m)) attribute.1 attribute.3 (grind (arith, attribute.2))

-- after n steps at most no dependency leads out
functionally_closed_from : (n : ℕ) (ds : List Dependency) (x : Attributes) → All (IsWithin (below n)) ds → All (λ d. is_fd d ≡ true) ds → (left : ℕ) (c : Attributes) → n ≤ count_below c n + left → IsBetween n ds x c
    → (e : Attributes) × IsBetween n ds x e × IsFunctionallyClosed ds e
functionally_closed_from n ds x within functional zero c most between =
    ⊎_elim
    (λ found. absurd (omega (arith, most, count_below-added n c found.0 (All-contains (IsWithin (below n)) ds found.0 within found.1) found.2, count_below-le n (union c (right_of found.0)))))
    (λ is_closed. (c, between, is_closed))
    (tell_functionally_closed n c ds within)
functionally_closed_from n ds x within functional (suc left) c most between =
    ⊎_elim
    (λ found.
    let inside = All-contains (IsWithin (below n)) ds found.0 within found.1 in
    let is = All-contains (λ (d : Dependency). is_fd d ≡ true) ds found.0 functional found.1 in
    functionally_closed_from n ds x within functional left (union c (right_of found.0))
    (omega (arith, most, count_below-added n c found.0 inside found.2))
    (IsBetween-union n ds x c found.0 inside is found.1 found.2 between))
    (λ is_closed. (c, between, is_closed))
    (tell_functionally_closed n c ds within)

-- ---- the two tuples of a functionally closed set are legal
functionally_closed_obeyed : (n : ℕ) (c : Attributes) (d : Dependency) → is_fd d ≡ true → IsWithin (below n) d → (IsSubset (left_of d) c → IsSubset (right_of d) c) → Obeys n d (two_tuples n c)
functionally_closed_obeyed n c (fd x y) is within stays = two_tuples_fd-from n c x y within.0 within.1 stays
functionally_closed_obeyed n c (mvd x y) is within stays = absurd (true≢false (sym is))

functionally_closed_two_legal : (n : ℕ) (ds : List Dependency) (c : Attributes) → All (IsWithin (below n)) ds → All (λ d. is_fd d ≡ true) ds → IsFunctionallyClosed ds c → IsLegal n ds (two_tuples n c)
functionally_closed_two_legal n ds c within functional is_closed = record {
  over = two_tuples-over n c;
  obeys = λ k d l. functionally_closed_obeyed n c _ (functional k d l) (within k d l) (is_closed k d l);
}

-- ---- the closure
-- c is the closure of x, which holds x, and the two tuples that agree exactly on it are legal
pub record IsClosure (n : ℕ) (ds : List Dependency) (x c : Attributes) : Type 0 where
  pub holds : IsSubset x c
  pub exact : (a : ℕ) → (c a ≡ true) ↔ InClosure n ds x a
  pub legal : IsLegal n ds (two_tuples n c)

functionally_closed_closure : (n : ℕ) (ds : List Dependency) (x c : Attributes) → IsSubset x (below n) → IsBetween n ds x c → IsLegal n ds (two_tuples n c) → IsClosure n ds x c
functionally_closed_closure n ds x c x_in between legal = record {
  holds = between.holds;
  exact = λ a. (
    (λ m. (ltb-true a n (between.universe a m), fd_each-to n ds x c between.implied a m)),
    (λ h. two_tuples_fd-to n c x (only a) x_in (λ (k : ℕ) e. grind (arith, nat_tests, e, h.0)) (h.1 (two_tuples n c) legal) between.holds a (grind (arith, nat_tests))),
  );
  legal = legal;
}

-- each set has one
pub closure_set : (n : ℕ) (ds : List Dependency) (x : Attributes) → All (IsWithin (below n)) ds → functional_part ds ≡ ds → IsSubset x (below n) → (c : Attributes) × IsClosure n ds x c
closure_set n ds x within same x_in =
    let functional = all_functional ds same in
    let found = functionally_closed_from n ds x within functional n x (omega arith) (IsBetween-refl n ds x x_in) in
    (found.0, functionally_closed_closure n ds x found.0 x_in found.1 (functionally_closed_two_legal n ds found.0 within functional found.2))

-- ---- closed sets
-- a set that holds its own closure
abbrev pub IsClosed : ℕ → List Dependency → Attributes → Type 0
IsClosed n ds c = (a : ℕ) → InClosure n ds c a → c a ≡ true

-- no dependency leads out of it
pub closed-to : (n : ℕ) (ds : List Dependency) (c : Attributes) → All (IsWithin (below n)) ds → functional_part ds ≡ ds → IsClosed n ds c → IsFunctionallyClosed ds c
closed-to n ds c within same closed k d l inside a member =
    let e : Dependency = get_or ds k d in
    let is : is_fd e ≡ true = all_functional ds same k d l in
    closed a (
      ltb-true a n ((within k d l).1 a member),
      λ r legal. fd_weaker_obeyed (left_of e) (right_of e) c (only a) r inside (λ (j : ℕ) m. only_in e a member j m) (fd-obeyed n e r is (legal.obeys k d l)),
    )
  where
    only_in : (e : Dependency) (a : ℕ) → right_of e a ≡ true → IsSubset (only a) (right_of e)
    only_in e a member j m = elim (cases_eq j a) [
      | inl same ↦ ap (right_of e) same ∙ member
      | inr other ↦ absurd (true≢false (sym m ∙ grind (arith, nat_tests, other)))
    ]

-- and where none does, it is closed
pub closed-from : (n : ℕ) (ds : List Dependency) (c : Attributes) → All (IsWithin (below n)) ds → functional_part ds ≡ ds → IsSubset c (below n) → IsFunctionallyClosed ds c → IsClosed n ds c
closed-from n ds c within same c_in is_closed a h =
    two_tuples_fd-to n c c (only a) c_in (λ (k : ℕ) e. grind (arith, nat_tests, e, lt-ltb a n h.0))
    (h.1 (two_tuples n c) (functionally_closed_two_legal n ds c within (all_functional ds same) is_closed)) (λ (k : ℕ) m. m) a (grind (arith, nat_tests))

-- a dependency leads out of a set that determines the universe and is not all of it
pub lead_from_superkey : (n : ℕ) (ds : List Dependency) (c : Attributes) (k : ℕ) → All (IsWithin (below n)) ds → functional_part ds ≡ ds → IsSubset c (below n) → Implies n ds (fd c (below n))
    → k < n → c k ≡ false → (d : Dependency) × Contains ds d × LeadsOut c d
lead_from_superkey n ds c k within same c_in superkey low out =
    ⊎_elim
    (λ found. found)
    (λ is_closed. absurd (true≢false (sym (closed-from n ds c within same c_in is_closed k (low, fd_each-to n ds c (below n) superkey k (lt-ltb k n low))) ∙ out)))
    (tell_functionally_closed n c ds within)
