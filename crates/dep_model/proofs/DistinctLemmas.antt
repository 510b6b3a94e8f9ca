-- Each distinct tuple once: the same relation, without repetition.
use Rattle.std.proofs.Common.{◌≡◌, ℕ, Bool, true, not, List, [], ◌∷◌, filter, cond, sym, ap, ◌∙◌, subst, inl, inr, ⊎_elim, arith}
use Rattle.std.proofs.lemmas.Bool.{cases_Bool, true≢false, eqb-true, eq-eqb, not-true, not_from_false}
use Rattle.std.specs.Bool.{Decides}
use Rattle.std.specs.Cmp.Lexicographic.{pointwise_decides}
use Rattle.std.specs.Prelude.{AllPairs, Contains}
use Rattle.attr_sets.specs.Attributes.{Attributes}
use Rattle.dep_model.specs.Tuples.{Tuple, Relation, SameRelation, same_tuple, distinct_tuples}
use Rattle.dep_model.specs.Projections.{projection, ordered_projection}
use Rattle.dep_model.proofs.ListLemmas.{Contains-head, Contains-later, Contains-cases}
use Rattle.dep_model.proofs.PairLemmas.{all_pairs_cons, first_pairs, later_pairs}

-- ---- the test of equal tuples
pub same_tuple-decides : (t u : Tuple) → Decides (same_tuple t u) (t ≡ u)
same_tuple-decides t u = pointwise_decides (pointwise_decides (λ (a b : ℕ). (eqb-true a b, eq-eqb a b))) t u

-- ---- members of a filtered list
pub filter-member : {X : Type 0} (p : X → Bool) (xs : List X) (x : X) → Contains (filter p xs) x → Contains xs x × (p x ≡ true)
filter-member p [] x h = absurd (omega (arith, h.1))
filter-member p (y ∷ xs) x h = elim (cases_Bool (p y)) [
  | inl passes ↦
      let h' : Contains (y ∷ filter p xs) x = subst (λ (b : Bool). Contains (cond b (y ∷ filter p xs) (filter p xs)) x) passes h in
      ⊎_elim
      (λ (first : x ≡ y). (subst (λ (z : _). Contains (z ∷ xs) x) first (Contains-head x xs), ap p first ∙ passes))
      (λ later. let found = filter-member p xs x later in (Contains-later y xs x found.0, found.1))
      (Contains-cases y (filter p xs) x h')
  | inr fails ↦
      let h' : Contains (filter p xs) x = subst (λ (b : Bool). Contains (cond b (y ∷ filter p xs) (filter p xs)) x) fails h in
      let found = filter-member p xs x h' in
      (Contains-later y xs x found.0, found.1)
]

pub filter-keeps : {X : Type 0} (p : X → Bool) (xs : List X) (x : X) → Contains xs x → p x ≡ true → Contains (filter p xs) x
filter-keeps p [] x h passes = absurd (omega (arith, h.1))
filter-keeps {X} p (y ∷ xs) x h passes = ⊎_elim
    (λ (first : x ≡ y). let y_passes : p y ≡ true = ap p (sym first) ∙ passes in rw y_passes (subst (λ (z : X). Contains (z ∷ filter p xs) x) first (Contains-head x (filter p xs))))
    (λ later. elim (cases_Bool (p y)) [
      | inl y_passes ↦ rw y_passes (Contains-later y (filter p xs) x (filter-keeps p xs x later passes))
      | inr y_fails ↦ rw y_fails (filter-keeps p xs x later passes)
    ])
    (Contains-cases y xs x h)

-- ---- the same tuples
abbrev differs_from : Tuple → Tuple → Bool
differs_from t u = not (same_tuple t u)

pub distinct_tuples-to : (r : Relation) (t : Tuple) → Contains (distinct_tuples r) t → Contains r t
distinct_tuples-to [] t h = h
distinct_tuples-to (u ∷ r) t h = ⊎_elim
    (λ (first : t ≡ u). subst (λ (z : Tuple). Contains (z ∷ r) t) first (Contains-head t r))
    (λ later. Contains-later u r t (distinct_tuples-to r t (filter-member (differs_from u) (distinct_tuples r) t later).0))
    (Contains-cases u (filter (differs_from u) (distinct_tuples r)) t h)

pub distinct_tuples-from : (r : Relation) (t : Tuple) → Contains r t → Contains (distinct_tuples r) t
distinct_tuples-from [] t h = h
distinct_tuples-from (u ∷ r) t h = elim (cases_Bool (same_tuple u t)) [
  | inl same ↦ subst (λ (z : Tuple). Contains (z ∷ filter (differs_from u) (distinct_tuples r)) t) (sym ((same_tuple-decides u t).0 same)) (Contains-head t (filter (differs_from u) (distinct_tuples r)))
  | inr differ ↦ ⊎_elim
      (λ (first : t ≡ u). absurd (true≢false (sym ((same_tuple-decides u t).1 (sym first)) ∙ differ)))
      (λ later. Contains-later u (filter (differs_from u) (distinct_tuples r)) t (filter-keeps (differs_from u) (distinct_tuples r) t (distinct_tuples-from r t later) (not_from_false (same_tuple u t) differ)))
      (Contains-cases u r t h)
]

-- ---- none twice
abbrev pub Differ : Tuple → Tuple → Type 0
Differ t u = t ≡ u → ⊥

filter-pairs : (p : Tuple → Bool) (r : Relation) → AllPairs Differ r → AllPairs Differ (filter p r)
filter-pairs p [] h = h
filter-pairs p (t ∷ r) h =
    let rest = filter-pairs p r (later_pairs Differ t r h) in
    elim (cases_Bool (p t)) [
      | inl passes ↦ rw passes (all_pairs_cons Differ t (filter p r) (λ u u_in. first_pairs Differ t r u h (filter-member p r u u_in).0) rest)
      | inr fails ↦ rw fails rest
    ]

pub distinct_tuples-differ : (r : Relation) → AllPairs Differ (distinct_tuples r)
distinct_tuples-differ [] = λ i j d lt l. absurd (omega (arith, l))
distinct_tuples-differ (t ∷ r) =
    all_pairs_cons Differ t (filter (differs_from t) (distinct_tuples r))
    (λ u u_in same. true≢false (sym ((same_tuple-decides t u).1 same) ∙ not-true (same_tuple t u) (filter-member (differs_from t) (distinct_tuples r) u u_in).1))
    (filter-pairs (differs_from t) (distinct_tuples r) (distinct_tuples-differ r))

pub ordered_projection-same : (scheme : Attributes) (r : Relation) → SameRelation (projection scheme r) (ordered_projection scheme r)
ordered_projection-same scheme r t = (distinct_tuples-from (projection scheme r) t, distinct_tuples-to (projection scheme r) t)
