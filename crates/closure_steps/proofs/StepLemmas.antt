-- What the steps of a closure add, how they follow from the set, and where they end.
use Rattle.std.proofs.Common.{◌≡◌, ℕ, ◌<◌, ◌↔◌, true, List, [], ◌∷◌, ◌++◌, length, get_or, take, refl, sym, ap, subst, ◌∙◌, ⊎_elim, arith}
use Rattle.std.proofs.lemmas.Bool.{true≢false, cases_order, ltb-true}
use Rattle.std.proofs.lemmas.List.Elements.{All-contains, All-filter, Contains-get_or}
use Rattle.std.proofs.lemmas.List.{get_or-take, length-take}
use Rattle.std.proofs.lemmas.Option.{slice_get_within, get_or_from_slice_get}
use Rattle.std.specs.Prelude.{All, Contains, Some, slice_get}
use Rattle.attr_sets.specs.Attributes.{Attributes, below, only, union, difference, IsSubset}
use Rattle.attr_sets.proofs.AttributesLemmas.{tell_subset}
use Rattle.dep_model.specs.Dependencies.{Dependency, fd, mvd, Obeys, is_fd, functional_part, left_of, right_of, IsWithin}
use Rattle.dep_model.specs.Implication.{Implies}
use Rattle.dep_model.specs.Keys.{InClosure}
use Rattle.dep_model.proofs.DistinctLemmas.{filter-keeps, filter-member}
use Rattle.dep_model.proofs.PreservationLemmas.{fd-obeyed}
use Rattle.dep_model.proofs.RuleLemmas.{reflexivity_obeyed, transitivity_obeyed, fd_weaker_obeyed}
use Rattle.fd_closure.specs.FunctionallyClosed.{IsFunctionallyClosed}
use Rattle.fd_closure.proofs.ClosedSets.{closed-from}
use Rattle.fd_closure.proofs.ClosureLemmas.{fd_each-to, fd_added}
use Rattle.closure_steps.specs.Steps.{ClosureStepValue, Adds, IsClosureStep, reached, AreSteps, AreClosureSteps}

-- ---- a fact of each member, at a member that is read
pub All-read : (P : Dependency → Type 0) (ds : List Dependency) (k : ℕ) (d : Dependency) → All P ds → slice_get ds k ≡ Some d → P d
All-read P ds k d each read =
    subst P (get_or_from_slice_get ds k d d read) (each k d (slice_get_within ds k d read))

read-contained : (ds : List Dependency) (k : ℕ) (d : Dependency) → slice_get ds k ≡ Some d → Contains ds d
read-contained ds k d read =
    subst (λ (e : Dependency). Contains ds e) (get_or_from_slice_get ds k d d read)
    (Contains-get_or ds k d (slice_get_within ds k d read))

-- ---- one step more
pub AreSteps-push : (ds : List Dependency) (c : Attributes) (steps : List ClosureStepValue) (step : ClosureStepValue) → AreSteps ds c steps → IsClosureStep ds (reached c steps) step → AreSteps ds c (steps ++ step ∷ [])
AreSteps-push ds c [] step before next = (next, tt)
AreSteps-push ds c (first ∷ later) step before next =
    (before.0, AreSteps-push ds (union c first.added) later step before.1 next)

pub reached-push : (c : Attributes) (steps : List ClosureStepValue) (step : ClosureStepValue) → reached c (steps ++ step ∷ []) ≡ union (reached c steps) step.added
reached-push c [] step = refl
reached-push c (first ∷ later) step = reached-push (union c first.added) later step

-- ---- what is there follows from the set
added_follows : (n : ℕ) (ds : List Dependency) (c : Attributes) (step : ClosureStepValue) → IsClosureStep ds c step → Implies n (functional_part ds) (fd c (union c step.added))
added_follows n ds c step is r legal =
    let d = is.dependency in
    let given = filter-keeps is_fd ds d (read-contained ds step.position d is.given) is.adds.functional in
    let obeys = fd-obeyed n d r is.adds.functional (All-contains (λ (e : Dependency). Obeys n e r) (functional_part ds) d legal.obeys given) in
    fd_weaker_obeyed c (union c (right_of d)) c (union c step.added) r (λ k m. m)
    (λ k m. grind (arith, m, ap (λ (x : Attributes). x k) is.added))
    (fd_added (left_of d) (right_of d) c r is.adds.leads_out.inside obeys)

pub reached_follows : (n : ℕ) (ds : List Dependency) (c : Attributes) (steps : List ClosureStepValue) → AreSteps ds c steps → Implies n (functional_part ds) (fd c (reached c steps))
reached_follows n ds c [] are r legal = reflexivity_obeyed c c r (λ k m. m)
reached_follows n ds c (step ∷ later) are r legal =
    transitivity_obeyed c (union c step.added) (reached (union c step.added) later) r
    (added_follows n ds c step are.0 r legal)
    (reached_follows n ds (union c step.added) later are.1 r legal)

-- ---- it grows, and stays within the universe
reached-grows : (c : Attributes) (steps : List ClosureStepValue) → IsSubset c (reached c steps)
reached-grows c [] k m = m
reached-grows c (step ∷ later) k m = reached-grows (union c step.added) later k (grind (arith, m))

added_within : (n : ℕ) (ds : List Dependency) (c : Attributes) (step : ClosureStepValue) → All (IsWithin (below n)) ds → IsClosureStep ds c step → IsSubset step.added (below n)
added_within n ds c step within is k m =
    (All-read (IsWithin (below n)) ds step.position is.dependency within is.given).1 k
    (grind (arith, m, ap (λ (x : Attributes). x k) is.added))

reached_within : (n : ℕ) (ds : List Dependency) (c : Attributes) (steps : List ClosureStepValue) → All (IsWithin (below n)) ds → IsSubset c (below n) → AreSteps ds c steps → IsSubset (reached c steps) (below n)
reached_within n ds c [] within c_in are = c_in
reached_within n ds c (step ∷ later) within c_in are =
    reached_within n ds (union c step.added) later within
    (λ k m. grind (arith, m, c_in k, added_within n ds c step within are.0 k)) are.1

-- ---- where no functional dependency adds anything, the set is closed
done_closed : (n : ℕ) (ds : List Dependency) (c : Attributes) → All (IsWithin (below n)) ds → All (λ d. Adds c d → ⊥) ds → IsFunctionallyClosed (functional_part ds) c
done_closed n ds c within done k d short inside =
    let e = get_or (functional_part ds) k d in
    let found = filter-member is_fd ds e (Contains-get_or (functional_part ds) k d short) in
    let e_in = All-contains (IsWithin (below n)) ds e within found.0 in
    ⊎_elim
    (λ out. absurd (All-contains (λ (f : Dependency). Adds c f → ⊥) ds e done found.0
    (record { functional = found.1; leads_out = record { inside = inside; beyond = λ all. true≢false (sym (all out.0 out.2) ∙ out.3) } })))
    (λ all. all)
    (tell_subset n (right_of e) c e_in.1)

functional_twice : (ds : List Dependency) → functional_part (functional_part ds) ≡ functional_part ds
functional_twice [] = refl
functional_twice (fd x y ∷ ds) = ap (λ (es : List Dependency). fd x y ∷ es) (functional_twice ds)
functional_twice (mvd x y ∷ ds) = functional_twice ds

-- ---- the steps reach the closure
closure_reached : (n : ℕ) (ds : List Dependency) (x : Attributes) (steps : List ClosureStepValue) (a : ℕ) → All (IsWithin (below n)) ds → IsSubset x (below n) → AreClosureSteps ds x steps
    → InClosure n (functional_part ds) x a → reached x steps a ≡ true
closure_reached n ds x steps a within x_in are h =
    let c = reached x steps in
    closed-from n (functional_part ds) c (All-filter is_fd (IsWithin (below n)) ds within) (functional_twice ds)
    (reached_within n ds x steps within x_in are.each) (done_closed n ds c within are.done) a
    (h.0, λ r legal. fd_weaker_obeyed x (only a) c (only a) r (reached-grows x steps) (λ k m. m) (h.1 r legal))

pub reached_is_closure : (n : ℕ) (ds : List Dependency) (x : Attributes) (steps : List ClosureStepValue) (a : ℕ) → All (IsWithin (below n)) ds → IsSubset x (below n) → AreClosureSteps ds x steps
    → (reached x steps a ≡ true) ↔ InClosure n (functional_part ds) x a
reached_is_closure n ds x steps a within x_in are = (
  (λ m. (
    ltb-true a n (reached_within n ds x steps within x_in are.each a m),
    fd_each-to n (functional_part ds) x (reached x steps) (reached_follows n ds x steps are.each) a m,
  )),
  closure_reached n ds x steps a within x_in are,
)

-- ---- there is one step at most from a set
not_earlier : (ds : List Dependency) (c : Attributes) (one other : ClosureStepValue) → IsClosureStep ds c one → IsClosureStep ds c other → one.position < other.position → ⊥
not_earlier ds c one other is is_other less =
    let i = one.position in
    let d = is.dependency in
    let short : i < length (take other.position ds) = omega (arith, less, length-take other.position ds, slice_get_within ds i d is.given, slice_get_within ds other.position is_other.dependency is_other.given) in
    let same : get_or (take other.position ds) i d ≡ d = get_or-take other.position ds i d less ∙ get_or_from_slice_get ds i d d is.given in
    subst (λ (e : Dependency). Adds c e → ⊥) same (is_other.first i d short) is.adds

same_step : (one other : ClosureStepValue) → one.position ≡ other.position → one.added ≡ other.added → one ≡ other
same_step one other at adds = λ i. record { position = at i; added = adds i }

one_step : (ds : List Dependency) (c : Attributes) (one other : ClosureStepValue) → IsClosureStep ds c one → IsClosureStep ds c other → one ≡ other
one_step ds c one other is is_other =
    ⊎_elim
    (λ (same : one.position ≡ other.position).
    let given : is.dependency ≡ is_other.dependency = sym (get_or_from_slice_get ds one.position is.dependency is.dependency is.given)
    ∙ ap (λ (i : ℕ). get_or ds i is.dependency) same ∙ get_or_from_slice_get ds other.position is_other.dependency is.dependency is_other.given in
    same_step one other same (is.added ∙ ap (λ (d : Dependency). difference (right_of d) c) given ∙ sym is_other.added))
    (⊎_elim
    (λ less. absurd (not_earlier ds c one other is is_other less))
    (λ more. absurd (not_earlier ds c other one is_other is more)))
    (cases_order one.position other.position)

-- and none where nothing adds anything
no_step : (ds : List Dependency) (c : Attributes) (step : ClosureStepValue) → All (λ d. Adds c d → ⊥) ds → IsClosureStep ds c step → ⊥
no_step ds c step done is = All-read (λ (d : Dependency). Adds c d → ⊥) ds step.position is.dependency done is.given is.adds

pub one_list : (ds : List Dependency) (x : Attributes) (steps others : List ClosureStepValue) → AreClosureSteps ds x steps → AreClosureSteps ds x others → steps ≡ others
one_list ds x [] [] are are_others = refl
one_list ds x [] (other ∷ later) are are_others = absurd (no_step ds x other are.done are_others.each.0)
one_list ds x (step ∷ later) [] are are_others = absurd (no_step ds x step are_others.done are.each.0)
one_list ds x (step ∷ later) (other ∷ others) are are_others =
    let first = one_step ds x step other are.each.0 are_others.each.0 in
    let same : union x other.added ≡ union x step.added = ap (λ (s : ClosureStepValue). union x s.added) (sym first) in
    let rest = one_list ds (union x step.added) later others (record { each = are.each.1; done = are.done })
    (subst (λ (c : Attributes). AreClosureSteps ds c others) same (record { each = are_others.each.1; done = are_others.done })) in
    ap (λ (s : ClosureStepValue). s ∷ later) first ∙ ap (λ (more : List ClosureStepValue). other ∷ more) rest

-- ---- a step adds something
pub adds_beyond : (ds : List Dependency) (c : Attributes) (step : ClosureStepValue) → IsClosureStep ds c step → IsSubset step.added c → ⊥
adds_beyond ds c step is inside =
    is.adds.leads_out.beyond (λ k m. beyond k m (inside k))
  where
    beyond : (k : ℕ) → right_of is.dependency k ≡ true → (step.added k ≡ true → c k ≡ true) → c k ≡ true
    beyond k m stays = grind (arith, m, stays, ap (λ (x : Attributes). x k) is.added)
