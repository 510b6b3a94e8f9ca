-- Traces decide what is implied on a scheme, and a left side may be taken for any set between it and
-- its closure.
use Rattle.std.proofs.Common.{◌≡◌, ℕ, suc, ◌↔◌, true, false, List, [], ◌∷◌, get_or, refl, sym, ap, subst, ◌∙◌, inl, inr, ⊎_elim, arith}
use mathlib.Core.Path.{fun_ext}
use Rattle.std.proofs.lemmas.Bool.{true≢false, cases_Bool, ltb-true, lt-ltb, or_cases}
use Rattle.std.proofs.lemmas.Bool.Decides.{nat_tests}
use Rattle.std.proofs.lemmas.List.Elements.{All-head, All-tail, All-cons, All-contains, All-weaker}
use Rattle.std.specs.Prelude.{All, Any, Contains}
use Rattle.attr_sets.specs.Attributes.{Attributes, below, only, none, union, intersection, difference, IsSubset, Disjoint, Intersects}
use Rattle.attr_sets.specs.declared.set.AttrSet.{AttrSet}
use Rattle.attr_sets.specs.declared.set.TheConstants.{MOST_ATTRIBUTES}
use Rattle.attr_sets.specs.Sets.{attributes}
use Rattle.attr_sets.proofs.AttributesLemmas.{attributes_below, tell_apart, tell_empty, same_from_within, same_at}
use Rattle.dep_model.specs.declared.dep.Dep.{Dep}
use Rattle.dep_model.specs.Tuples.{Tuple, Relation, value_at, AgreeOn, AgreeExactly}
use Rattle.dep_model.specs.Dependencies.{Dependency, fd, mvd, ObeysFd, ObeysMvd, functional_part}
use Rattle.dep_model.specs.Implication.{IsLegal, Implies}
use Rattle.dep_model.specs.Deps.{dependencies_of, IsDepWithin}
use Rattle.dep_model.specs.OnSchemes.{ImpliedOn}
use Rattle.dep_model.specs.Keys.{InClosure, IsBlock, IsPartOn}
use Rattle.dep_model.specs.TwoTuples.{two_tuples, all_zeros, zeros_on}
use Rattle.dep_model.proofs.RuleLemmas.{reflexivity_obeyed, mvd_union_obeyed, mreflexivity_obeyed, transitivity_obeyed}
use Rattle.dep_model.proofs.DepLemmas.{functional_legal-weaker}
use Rattle.dep_model.proofs.SchemeLemmas.{mvd_in-to, mvd_in-from}
use Rattle.dep_model.proofs.KeyLemmas.{fd_on-to, fd_on-from}
use Rattle.dep_model.proofs.TwoRowLemmas.{Contains-two_first, Contains-two_second, Contains-two_cases, agree-to, agree-from}
use Rattle.dep_model.proofs.TwoTupleLemmas.{two_tuples-is, two_tuples-agree}
use Rattle.fd_closure.proofs.ClosureLemmas.{fd_each-from}
use Rattle.dep_basis.specs.declared.gathering.Blocks.{Blocks}
use Rattle.dep_basis.specs.Traces.{IsTrace, blocks_of, AreTraces}
use Rattle.dep_basis.specs.Bases.{IsSplitBy, SplitsNone, IsBasis, IsListedPart, IsTraceBasis}
use Rattle.dep_basis.proofs.BlockLemmas.{outside_of, block_legal, block_disjoint, blocks_same}

-- ---- one relation
-- x -> c, with x within c: what c multidetermines, x does, and the other way round
mvd_wider_obeyed : (scheme x c y : Attributes) (r : Relation) → IsSubset x c → ObeysFd x c r → ObeysMvd scheme x y r → ObeysMvd scheme c y r
mvd_wider_obeyed scheme x c y r inside closed obeys t u t_in u_in agree =
    let v = obeys t u t_in u_in (λ (k : ℕ) m. agree k (inside k m)) in (
      v.0,
      v.1,
      (λ (k : ℕ) m. elim (or_cases (c k) (y k) m) [
        | inl in_c ↦ closed v.0 t v.1 t_in (λ (j : ℕ) h. v.2 j (grind (arith, h))) k in_c
        | inr in_y ↦ v.2 k (grind (arith, in_y))
      ]),
      (λ (k : ℕ) m. v.3 k (grind (arith, m, inside k))),
    )

mvd_narrower_obeyed : (scheme x c y : Attributes) (r : Relation) → IsSubset x c → ObeysFd x c r → ObeysMvd scheme c y r → ObeysMvd scheme x y r
mvd_narrower_obeyed scheme x c y r inside closed obeys t u t_in u_in agree =
    let on_c : AgreeOn c t u = closed t u t_in u_in agree in
    let v = obeys t u t_in u_in on_c in (
      v.0,
      v.1,
      (λ (k : ℕ) m. v.2 k (grind (arith, m, inside k))),
      (λ (k : ℕ) m. elim (cases_Bool (c k)) [
        | inl in_c ↦ v.2 k (grind (arith, in_c)) ∙ on_c k in_c
        | inr out ↦ v.3 k (grind (arith, m, out))
      ]),
    )

-- ---- a left side and a set between it and its closure
module _ (n : ℕ) (ds : List Dependency) (x c : Attributes) (inside : IsSubset x c) (closed : Implies n ds (fd x c)) where
  pub closure_wider : (a : ℕ) → InClosure n ds c a → InClosure n ds x a
  closure_wider a h = (h.0, λ r legal. transitivity_obeyed x c (only a) r (closed r legal) (h.1 r legal))

  pub closure_narrower : (a : ℕ) → InClosure n ds x a → InClosure n ds c a
  closure_narrower a h = (h.0, λ r legal. transitivity_obeyed c x (only a) r (reflexivity_obeyed c x r inside) (h.1 r legal))

  pub block_wider : (p : Attributes) → IsBlock n ds c p → IsBlock n ds x p
  block_wider p block = record {
    universe = block.universe;
    outside = λ a m h. block.outside a m (closure_narrower a h);
    not_empty = block.not_empty;
    implied = λ r legal. mvd_narrower_obeyed (below n) x c p r inside (closed r legal) (block.implied r legal);
    minimal = λ q within not_empty implied. block.minimal q within not_empty (λ r legal. mvd_wider_obeyed (below n) x c q r inside (closed r legal) (implied r legal));
  }

  pub block_narrower : (p : Attributes) → IsBlock n ds x p → IsBlock n ds c p
  block_narrower p block = record {
    universe = block.universe;
    outside = λ a m h. block.outside a m (closure_wider a h);
    not_empty = block.not_empty;
    implied = λ r legal. mvd_wider_obeyed (below n) x c p r inside (closed r legal) (block.implied r legal);
    minimal = λ q within not_empty implied. block.minimal q within not_empty (λ r legal. mvd_narrower_obeyed (below n) x c q r inside (closed r legal) (implied r legal));
  }

  trace_wider : (scheme : Attributes) (q : AttrSet) → IsTrace n ds scheme c (attributes q) → IsTrace n ds scheme x (attributes q)
  trace_wider scheme q old = record { block = old.block; is_block = block_wider old.block old.is_block; trace = old.trace; not_empty = old.not_empty }

  pub traces_wider : (scheme : Attributes) (found : Blocks) → AreTraces n ds scheme c found → AreTraces n ds scheme x found
  traces_wider scheme found old = record {
    closed = λ a. (
      (λ m. let h = (old.closed a).0 m in (h.0, closure_wider a h.1)),
      (λ h. (old.closed a).1 (h.0, closure_narrower a h.1)),
    );
    each = All-weaker (λ (q : AttrSet). IsTrace n ds scheme c (attributes q)) (λ (q : AttrSet). IsTrace n ds scheme x (attributes q)) (trace_wider scheme) (blocks_of found) old.each;
    parts = old.parts;
    listed = old.listed;
  }

-- the closure by the functional dependencies is such a set
pub closure_between : (n : ℕ) (ds : List Dependency) (x c : Attributes) → IsSubset x (below n) → ((a : ℕ) → (c a ≡ true) ↔ InClosure n (functional_part ds) x a)
    → IsSubset x c × IsSubset c (below n) × Implies n ds (fd x c)
closure_between n ds x c x_in closure = (
  (λ a m. (closure a).1 (ltb-true a n (x_in a m), λ r legal. reflexivity_obeyed x (only a) r (λ (k : ℕ) h. grind (arith, nat_tests, h, m)))),
  (λ a m. lt-ltb a n ((closure a).0 m).0),
  (λ r legal. fd_each-from n (functional_part ds) x c (λ (a : ℕ) m. ((closure a).0 m).1) r (functional_legal-weaker n ds r legal)),
)

-- ---- a multivalued dependency on a scheme
AgreeExactly-sym : (n : ℕ) (a : Attributes) (t u : Tuple) → AgreeExactly n a t u → AgreeExactly n a u t
AgreeExactly-sym n a t u exact = record {
  first = exact.second;
  second = exact.first;
  equal = λ k l. ((λ m. sym ((exact.equal k l).0 m)), (λ e. (exact.equal k l).1 (sym e)));
}

-- two tuples that agree outside p break it where what the scheme has of p is split
pub split_broken : (n : ℕ) (scheme x y p : Attributes) → IsSubset scheme (below n) → IsSubset x scheme → IsSubset y scheme → Disjoint p x → IsSplitBy scheme y (intersection p scheme) → ObeysMvd scheme x y (two_tuples n (outside_of n p)) → ⊥
split_broken n scheme x y p scheme_in x_in y_in apart split obeys =
    let a = outside_of n p in
    let t = all_zeros n in
    let u = zeros_on n a in
    let exact = two_tuples-agree n a in
    let low : IsSubset x (below n) = λ (k : ℕ) m. scheme_in k (x_in k m) in
    let both : ObeysMvd scheme x y (t ∷ u ∷ []) = subst (λ (r : Relation). ObeysMvd scheme x y r) (two_tuples-is n a) obeys in
    let found = both t u (Contains-two_first t u) (Contains-two_second t u) (agree-from n a x t u exact low (λ (k : ℕ) m. grind (arith, m, low k m, apart k))) in
    ⊎_elim
    (λ first.
    let rest = agree-to n a (difference scheme (union x y)) t u exact (λ (k : ℕ) m. scheme_in k (grind (arith, m))) (subst (λ (s : Tuple). AgreeOn (difference scheme (union x y)) s u) first found.3) in
    let k = split.1.0 in
    true≢false (sym (rest k (grind (arith, split.1.1, split.1.2, apart k))) ∙ grind (arith, split.1.1)))
    (λ second.
    let on_y = agree-to n a y u t (AgreeExactly-sym n a t u exact) (λ (k : ℕ) m. scheme_in k (y_in k m)) (λ (k : ℕ) m. subst (λ (s : Tuple). AgreeOn (union x y) s t) second found.2 k (grind (arith, m))) in
    let k = split.0.0 in
    true≢false (sym (on_y k split.0.2) ∙ grind (arith, split.0.1)))
    (Contains-two_cases t u found.0 found.1)

-- ---- the union of the blocks whose traces intersect a set
Any-here : {X : Type 0} (P : X → Type 0) (x : X) (xs : List X) → P x → Any P (x ∷ xs)
Any-here P x xs h = (0, x, omega arith, refl, h)

Any-later : {X : Type 0} (P : X → Type 0) (x : X) (xs : List X) → Any P xs → Any P (x ∷ xs)
Any-later P x xs (k, y, lt, is, h) = (suc k, y, omega (arith, lt), is, h)

record IsGathered (n : ℕ) (ds : List Dependency) (scheme x y : Attributes) (qs : List AttrSet) (z : Attributes) : Type 0 where
  universe : IsSubset z (below n)
  implied : Implies n ds (mvd x z)
  member : (k : ℕ) → z k ≡ true → scheme k ≡ true → Any (λ q. Intersects (attributes q) y × (attributes q k ≡ true)) qs
  holds : All (λ q. Intersects (attributes q) y → IsSubset (attributes q) z) qs

IsGathered-exists : (n : ℕ) (ds : List Dependency) (scheme x y : Attributes) (qs : List AttrSet) → All (λ q. IsTrace n ds scheme x (attributes q)) qs → (z : Attributes) × IsGathered n ds scheme x y qs z
IsGathered-exists n ds scheme x y [] each = (
  none,
  record {
    universe = λ k m. absurd (true≢false (sym m));
    implied = λ r legal. mreflexivity_obeyed (below n) x none r (λ (k : ℕ) m. absurd (true≢false (sym m)));
    member = λ k m s. absurd (true≢false (sym m));
    holds = λ k d l. absurd (omega arith);
  },
)
IsGathered-exists n ds scheme x y (q ∷ qs) each =
    let rest = IsGathered-exists n ds scheme x y qs (All-tail (λ (s : AttrSet). IsTrace n ds scheme x (attributes s)) q qs each) in
    let trace = All-head (λ (s : AttrSet). IsTrace n ds scheme x (attributes s)) q qs each in
    let intersects : AttrSet → ℕ → Type 0 = λ (s : AttrSet) (k : ℕ). Intersects (attributes s) y × (attributes s k ≡ true) in
    ⊎_elim
    (λ common. (
      union trace.block rest.0,
      record {
        universe = λ k m. grind (arith, m, trace.is_block.universe k, rest.1.universe k);
        implied = λ r legal. mvd_union_obeyed (below n) x trace.block rest.0 r trace.is_block.universe (trace.is_block.implied r legal) (rest.1.implied r legal);
        member = λ k m s. elim (or_cases (trace.block k) (rest.0 k) m) [
          | inl inside ↦ Any-here (λ (p : AttrSet). intersects p k) q qs (common, grind (arith, same_at trace.trace k, inside, s))
          | inr later ↦ Any-later (λ (p : AttrSet). intersects p k) q qs (rest.1.member k later s)
        ];
        holds = All-cons (λ (p : AttrSet). Intersects (attributes p) y → IsSubset (attributes p) (union trace.block rest.0)) q qs
            (λ _ k m. grind (arith, same_at trace.trace k, m))
            (All-weaker (λ (p : AttrSet). Intersects (attributes p) y → IsSubset (attributes p) rest.0) (λ (p : AttrSet). Intersects (attributes p) y → IsSubset (attributes p) (union trace.block rest.0))
            (λ (p : AttrSet) h both k m. grind (arith, h both k m)) qs rest.1.holds);
      },
    ))
    (λ apart. (
      rest.0,
      record {
        universe = rest.1.universe;
        implied = rest.1.implied;
        member = λ k m s. Any-later (λ (p : AttrSet). intersects p k) q qs (rest.1.member k m s);
        holds = All-cons (λ (p : AttrSet). Intersects (attributes p) y → IsSubset (attributes p) rest.0) q qs
            (λ both. absurd (true≢false (sym both.2 ∙ apart both.0 both.1))) rest.1.holds;
      },
    ))
    (tell_apart MOST_ATTRIBUTES (attributes q) y (attributes_below q))

-- ---- what the traces decide
module _ (n : ℕ) (ds : List Dep) (scheme x : Attributes) (found : Blocks) (within : All (IsDepWithin (below n)) ds) (scheme_in : IsSubset scheme (below n)) (x_in : IsSubset x scheme)
    (traces : AreTraces n (dependencies_of ds) scheme x found) where
  traces_split : (y : Attributes) → IsSubset y scheme → ((r : Relation) → IsLegal n (dependencies_of ds) r → ObeysMvd scheme x y r) → SplitsNone scheme y (blocks_of found)
  traces_split y y_in obeyed k d l split =
      let trace = traces.each k d l in
      let same : attributes (get_or (blocks_of found) k d) ≡ intersection trace.block scheme = trace.trace in
      split_broken n scheme x y trace.block scheme_in x_in y_in (block_disjoint n (dependencies_of ds) x trace.block trace.is_block)
      (subst (λ (p : Attributes). IsSplitBy scheme y p) same split)
      (obeyed (two_tuples n (outside_of n trace.block)) (block_legal n ds x trace.block within (λ (j : ℕ) m. scheme_in j (x_in j m)) trace.is_block))

  traces_whole : (y : Attributes) → IsSubset y scheme → SplitsNone scheme y (blocks_of found) → (r : Relation) → IsLegal n (dependencies_of ds) r → ObeysMvd scheme x y r
  traces_whole y y_in splits r legal t u t_in u_in agree =
      let z = IsGathered-exists n (dependencies_of ds) scheme x y (blocks_of found) traces.each in
      let v = z.1.implied r legal t u t_in u_in agree in
      let with_u : AgreeOn x v.0 u = λ (k : ℕ) m. v.2 k (grind (arith, m)) ∙ agree k m in
      let closed_at : (k : ℕ) (s : Tuple) → Contains r s → AgreeOn x v.0 s → attributes found.closed k ≡ true → value_at v.0 k ≡ value_at s k
      = λ (k : ℕ) (s : Tuple) s_in on_x m. ((traces.closed k).0 m).1.1 r legal v.0 s v.1 s_in on_x k (grind (arith, nat_tests)) in (
        v.0,
        v.1,
        (λ (k : ℕ) m. elim (cases_Bool (x k)) [
          | inl in_x ↦ v.2 k (grind (arith, in_x))
          | inr out ↦
              let in_y : y k ≡ true = grind (arith, m, out) in
              ⊎_elim
              (λ closed. closed_at k t t_in (λ (j : ℕ) h. v.2 j (grind (arith, h))) closed)
              (λ (j, q, lt, is, in_q). v.2 k (grind (arith, All-contains (λ (s : AttrSet). Intersects (attributes s) y → IsSubset (attributes s) z.0) (blocks_of found) q z.1.holds (j, lt, is) (k, in_q, in_y) k in_q)))
              (traces.parts k (y_in k in_y))
        ]),
        (λ (k : ℕ) m. ⊎_elim
            (λ closed. closed_at k u u_in with_u closed)
            (λ _. elim (cases_Bool (z.0 k)) [
              | inl in_z ↦
                  let one = z.1.member k in_z (grind (arith, m)) in
                  absurd (All-contains (λ (s : AttrSet). IsSplitBy scheme y (attributes s) → ⊥) (blocks_of found) one.1 splits (one.0, one.2, one.3) (one.4.0, (k, one.4.1, grind (arith, m))))
              | inr out ↦ v.3 k (grind (arith, m, out, scheme_in k))
            ])
            (traces.parts k (grind (arith, m)))),
      )

  -- what is implied on the scheme
  traces_decide : (y : Attributes) → IsSubset y scheme → ImpliedOn n (dependencies_of ds) scheme (mvd x y) ↔ SplitsNone scheme y (blocks_of found)
  traces_decide y y_in = (
    (λ on. traces_split y y_in (λ r legal. mvd_in-to scheme x y r x_in y_in (on.obeyed r legal))),
    (λ splits. record { within = (x_in, y_in); obeyed = λ r legal. mvd_in-from scheme x y r x_in y_in (traces_whole y y_in splits r legal) }),
  )

  trace_in : (q : Attributes) → IsTrace n (dependencies_of ds) scheme x q → IsSubset q scheme
  trace_in q trace k m = grind (arith, same_at trace.trace k, m)

  -- traces with a common member are the same
  same_traces : (q p : Attributes) → IsTrace n (dependencies_of ds) scheme x q → IsTrace n (dependencies_of ds) scheme x p → Intersects q p → q ≡ p
  same_traces q p one other common =
      let k = common.0 in
      let blocks = blocks_same n (dependencies_of ds) x one.block other.block one.is_block other.is_block (k, grind (arith, same_at one.trace k, common.1), grind (arith, same_at other.trace k, common.2)) in
      fun_ext (λ j. grind (arith, same_at one.trace j, same_at other.trace j, same_at blocks j))

  -- each trace is listed
  traces_all : (q : Attributes) → IsTrace n (dependencies_of ds) scheme x q → Any (λ p. attributes p ≡ q) (blocks_of found)
  traces_all q trace = ⊎_elim
      (λ not_empty.
      let a = not_empty.0 in
      ⊎_elim
      (λ closed. absurd (trace.is_block.outside a (grind (arith, same_at trace.trace a, not_empty.2)) ((traces.closed a).0 closed).1))
      (λ one.
      let listed = All-contains (λ (p : AttrSet). IsTrace n (dependencies_of ds) scheme x (attributes p)) (blocks_of found) one.1 traces.each (one.0, one.2, one.3) in
      (one.0, one.1, one.2, one.3, same_traces (attributes one.1) q listed trace (a, one.4, not_empty.2)))
      (traces.parts a (trace_in q trace a not_empty.2)))
      (λ none. absurd (trace.not_empty none))
      (tell_empty n q (λ (k : ℕ) m. scheme_in k (trace_in q trace k m)))

  -- a trace is split by none, and neither is a determined attribute
  trace_alone : (q : Attributes) → IsTrace n (dependencies_of ds) scheme x q → SplitsNone scheme q (blocks_of found)
  trace_alone q trace k d l split =
      let same = same_traces (attributes (get_or (blocks_of found) k d)) q (traces.each k d l) trace split.0 in
      let j = split.1.0 in
      true≢false (sym split.1.1 ∙ grind (arith, same_at same j, split.1.2))

  closed_alone : (a : ℕ) → attributes found.closed a ≡ true → SplitsNone scheme (only a) (blocks_of found)
  closed_alone a closed k d l split =
      let listed = traces.each k d l in
      let j = split.0.0 in
      let same : j ≡ a = grind (arith, nat_tests, split.0.2) in
      let in_q : attributes (get_or (blocks_of found) k d) a ≡ true = sym (ap (attributes (get_or (blocks_of found) k d)) same) ∙ split.0.1 in
      listed.is_block.outside a (grind (arith, same_at listed.trace a, in_q)) ((traces.closed a).0 closed).1

  -- a listed trace lies within each set that it shares some of and that splits none
  listed_inside : (q : AttrSet) (y : Attributes) (a : ℕ) → Contains (blocks_of found) q → IsSubset (attributes q) scheme → attributes q a ≡ true → y a ≡ true → SplitsNone scheme y (blocks_of found) → IsSubset (attributes q) y
  listed_inside q y a listed q_in in_q in_y splits k m = elim (cases_Bool (y k)) [
    | inl inside ↦ inside
    | inr out ↦ absurd (All-contains (λ (s : AttrSet). IsSplitBy scheme y (attributes s) → ⊥) (blocks_of found) q splits listed ((a, in_q, in_y), (k, m, grind (arith, q_in k m, out))))
  ]

  -- a listed trace is a part
  part_trace : (p : Attributes) → Any (λ q. attributes q ≡ p) (blocks_of found) → IsPartOn n (dependencies_of ds) scheme x p
  part_trace p one =
      let q = one.1 in
      let listed : Contains (blocks_of found) q = (one.0, one.2, one.3) in
      let trace = All-contains (λ (s : AttrSet). IsTrace n (dependencies_of ds) scheme x (attributes s)) (blocks_of found) q traces.each listed in
      let apart = block_disjoint n (dependencies_of ds) x trace.block trace.is_block in
      let made : IsPartOn n (dependencies_of ds) scheme x (attributes q) = record {
        outside = λ k m. apart k (grind (arith, same_at trace.trace k, m));
        not_empty = trace.not_empty;
        implied = (traces_decide (attributes q) (trace_in (attributes q) trace)).1 (trace_alone (attributes q) trace);
        minimal = λ y inside not_empty implied. ⊎_elim
            (λ shared. listed_inside q y shared.0 listed (trace_in (attributes q) trace) (inside shared.0 shared.2) shared.2 ((traces_decide y implied.within.1).0 implied))
            (λ none. absurd (not_empty none))
            (tell_empty n y (λ (k : ℕ) m. scheme_in k (implied.within.1 k m)));
      } in
      subst (λ (s : Attributes). IsPartOn n (dependencies_of ds) scheme x s) one.4 made

  -- so is a determined attribute outside x
  part_closed : (a : ℕ) → attributes found.closed a ≡ true → x a ≡ false → IsPartOn n (dependencies_of ds) scheme x (only a)
  part_closed a closed out =
      let only_in : IsSubset (only a) scheme = λ (k : ℕ) e. grind (arith, nat_tests, e, ((traces.closed a).0 closed).0) in
      record {
        outside = λ k e. grind (arith, nat_tests, e, out);
        not_empty = λ none. true≢false (grind (arith, nat_tests, none a));
        implied = (traces_decide (only a) only_in).1 (closed_alone a closed);
        minimal = λ y inside not_empty implied k e. ⊎_elim
            (λ shared. grind (arith, nat_tests, e, inside shared.0 shared.2, shared.2))
            (λ none. absurd (not_empty none))
            (tell_empty n y (λ (j : ℕ) m. scheme_in j (implied.within.1 j m)));
      }

  -- there is no other part
  part_listed : (p : Attributes) → IsPartOn n (dependencies_of ds) scheme x p → IsListedPart x found p
  part_listed p part =
      let p_in = part.implied.within.1 in
      let splits = (traces_decide p p_in).0 part.implied in
      ⊎_elim
      (λ not_empty.
      let a = not_empty.0 in
      ⊎_elim
      (λ closed.
      let out = part.outside a not_empty.2 in
      let alone = part_closed a closed out in
      let inside : IsSubset (only a) p = λ (k : ℕ) e. grind (arith, nat_tests, e, not_empty.2) in
      inr (a, closed, out, same_from_within p (only a) (part.minimal (only a) inside alone.not_empty alone.implied) inside))
      (λ one.
      let q = one.1 in
      let listed : Contains (blocks_of found) q = (one.0, one.2, one.3) in
      let trace = All-contains (λ (s : AttrSet). IsTrace n (dependencies_of ds) scheme x (attributes s)) (blocks_of found) q traces.each listed in
      let inside = listed_inside q p a listed (trace_in (attributes q) trace) one.4 not_empty.2 splits in
      let back = part.minimal (attributes q) inside trace.not_empty ((traces_decide (attributes q) (trace_in (attributes q) trace)).1 (trace_alone (attributes q) trace)) in
      inl (one.0, q, one.2, one.3, same_from_within (attributes q) p inside back))
      (traces.parts a (p_in a not_empty.2)))
      (λ none. absurd (part.not_empty none))
      (tell_empty n p (λ (k : ℕ) m. scheme_in k (p_in k m)))

  pub trace_basis-from : IsTraceBasis n (dependencies_of ds) scheme x found
  trace_basis-from = record {
    traces = traces;
    functional = λ a. (
      (λ m. let h = (traces.closed a).0 m in fd_on-from n (dependencies_of ds) scheme x (only a) x_in (λ (k : ℕ) e. grind (arith, nat_tests, e, h.0)) h.1.1),
      (λ on. (traces.closed a).1 (on.within.1 a (grind (arith, nat_tests)), (ltb-true a n (scheme_in a (on.within.1 a (grind (arith, nat_tests)))), fd_on-to n (dependencies_of ds) scheme x (only a) on))),
    );
    multivalued = traces_decide;
    all = traces_all;
    part = λ p. (
      part_listed p,
      (λ listed. ⊎_elim
          (λ one. part_trace p one)
          (λ (a, closed, out, is). subst (λ (q : Attributes). IsPartOn n (dependencies_of ds) scheme x q) (sym is) (part_closed a closed out))
          listed),
    );
  }

-- ---- on the universe, the traces are the blocks
module _ (n : ℕ) (ds : List Dep) (x : Attributes) (found : Blocks) (within : All (IsDepWithin (below n)) ds) (x_in : IsSubset x (below n))
    (traces : AreTraces n (dependencies_of ds) (below n) x found) where
  trace_block : (q : AttrSet) → IsTrace n (dependencies_of ds) (below n) x (attributes q) → IsBlock n (dependencies_of ds) x (attributes q)
  trace_block q trace =
      let same : trace.block ≡ attributes q = fun_ext (λ (k : ℕ). grind (arith, same_at trace.trace k, trace.is_block.universe k)) in
      subst (λ (p : Attributes). IsBlock n (dependencies_of ds) x p) same trace.is_block

  blocks_listed : (p : Attributes) → IsBlock n (dependencies_of ds) x p → Any (λ q. attributes q ≡ p) (blocks_of found)
  blocks_listed p block = ⊎_elim
      (λ not_empty. ⊎_elim
      (λ closed. absurd (block.outside not_empty.0 not_empty.2 ((traces.closed not_empty.0).0 closed).1))
      (λ one. (
        one.0,
        one.1,
        one.2,
        one.3,
        let listed = trace_block one.1 (All-contains (λ (q : AttrSet). IsTrace n (dependencies_of ds) (below n) x (attributes q)) (blocks_of found) one.1 traces.each (one.0, one.2, one.3)) in
            blocks_same n (dependencies_of ds) x (attributes one.1) p listed block (not_empty.0, one.4, not_empty.2),
      ))
      (traces.parts not_empty.0 (block.universe not_empty.0 not_empty.2)))
      (λ none. absurd (block.not_empty none))
      (tell_empty n p block.universe)

  pub basis-from : IsBasis n (dependencies_of ds) x found
  basis-from = record {
    closed = λ a. ((λ m. ((traces.closed a).0 m).1), (λ h. (traces.closed a).1 (lt-ltb a n h.0, h)));
    each = λ k d l. trace_block (get_or (blocks_of found) k d) (traces.each k d l);
    all = blocks_listed;
    parts = λ a low. traces.parts a (lt-ltb a n low);
    listed = traces.listed;
    multivalued = λ y y_in. (traces_split n ds (below n) x found within (λ k m. m) x_in traces y y_in, traces_whole n ds (below n) x found within (λ k m. m) x_in traces y y_in);
  }
