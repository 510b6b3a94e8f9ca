-- Joins of projections: what is in them, and plans that are lossless where another one is.
use Rattle.std.proofs.Common.{◌≡◌, ℕ, ◌⊎◌, zero, suc, true, List, [], ◌∷◌, ◌++◌, length, map, refl, sym, ap, ◌∙◌, subst, inl, inr, ⊎_elim, arith}
use Rattle.std.proofs.lemmas.Bool.{cases_Bool}
use Rattle.std.proofs.lemmas.List.{map-append}
use Rattle.std.proofs.lemmas.List.Elements.{All-contains, Contains-append_left, Contains-append_right, Contains-append_cases}
use Rattle.std.specs.Prelude.{Contains, Any}
use Rattle.std.specs.List.{AllZip}
use Rattle.attr_sets.specs.Attributes.{Attributes, union, difference, IsSubset, Disjoint}
use Rattle.dep_model.specs.Tuples.{Tuple, Relation, value_at, AgreeOn, IsOver}
use Rattle.dep_model.specs.Dependencies.{Dependency, mvd, ObeysMvd}
use Rattle.dep_model.specs.Implication.{IsLegal}
use Rattle.dep_model.specs.Projections.{members_below, project_tuple, projection, projections, InJoin, Covers, IsLossless}
use Rattle.dep_model.specs.OnSchemes.{value_in, ImpliedOn}
use Rattle.dep_model.proofs.ListLemmas.{Contains-map, map-member, Contains-head, Contains-later, Contains-cases, Any-from}
use Rattle.dep_model.proofs.SchemeLemmas.{members_below-member, members_below-outside, members_below-none, value_in-project_tuple, mvd_in-to}

-- ---- equal projections and agreement
-- functions that agree on a set have the same values at its members
pub map_members-same : {X : Type 0} (f g : ℕ → X) (n : ℕ) (x : Attributes) → ((k : ℕ) → x k ≡ true → f k ≡ g k) → map f (members_below n x) ≡ map g (members_below n x)
map_members-same f g zero x same = rw (members_below-none x) refl
map_members-same f g (suc n) x same = elim (cases_Bool (x n)) [
  | inl member ↦ rw (members_below-member n x member)
      (map-append f (members_below n x) (n ∷ []) ∙ ap (λ v. map f (members_below n x) ++ v ∷ []) (same n member) ∙ ap (λ vs. vs ++ g n ∷ []) (map_members-same f g n x same) ∙ sym (map-append g (members_below n x) (n ∷ [])))
  | inr outside ↦ rw (members_below-outside n x outside) (map_members-same f g n x same)
]

pub project_tuple-same : (scheme : Attributes) (t u : Tuple) → length t ≡ length u → AgreeOn scheme t u → project_tuple scheme t ≡ project_tuple scheme u
project_tuple-same scheme t u long agree =
    map_members-same (λ k. value_at t k) (λ k. value_at u k) (length t) scheme agree
    ∙ ap (λ (n : ℕ). map (λ k. value_at u k) (members_below n scheme)) long

pub agree-from_projections : (scheme : Attributes) (t u : Tuple) → project_tuple scheme t ≡ project_tuple scheme u → AgreeOn scheme t u
agree-from_projections scheme t u same k m =
    sym (value_in-project_tuple scheme t k m) ∙ ap (λ (p : Tuple). value_in scheme p k) same ∙ value_in-project_tuple scheme u k m

-- the projection on a part is found in the projection on the scheme
pub project_part : (n : ℕ) (scheme part : Attributes) (t : Tuple) → IsSubset part scheme → length t ≡ n
    → map (λ k. value_in scheme (project_tuple scheme t) k) (members_below n part) ≡ project_tuple part t
project_part n scheme part t inside long =
    map_members-same (λ k. value_in scheme (project_tuple scheme t) k) (λ k. value_at t k) n part (λ k m. value_in-project_tuple scheme t k (inside k m))
    ∙ ap (λ (m : ℕ). map (λ k. value_at t k) (members_below m part)) (sym long)

-- ---- the join of the projections of a relation, scheme by scheme
-- the projection of a tuple is that of some tuple of the relation
abbrev pub IsProjected : Relation → Tuple → Attributes → Type 0
IsProjected r t scheme = Contains (projection scheme r) (project_tuple scheme t)

zip-to : (r : Relation) (t : Tuple) (plan : List Attributes) → AllZip (λ (scheme : Attributes) (table : Relation). Contains table (project_tuple scheme t)) plan (projections plan r)
    → (scheme : Attributes) → Contains plan scheme → IsProjected r t scheme
zip-to r t [] each scheme h = absurd (omega (arith, h.1))
zip-to r t (first ∷ plan) each scheme h = ⊎_elim
    (λ (is_first : scheme ≡ first). subst (λ (s : Attributes). IsProjected r t s) (sym is_first) each.0)
    (λ later. zip-to r t plan each.1 scheme later)
    (Contains-cases first plan scheme h)

zip-from : (r : Relation) (t : Tuple) (plan : List Attributes) → ((scheme : Attributes) → Contains plan scheme → IsProjected r t scheme)
    → AllZip (λ (scheme : Attributes) (table : Relation). Contains table (project_tuple scheme t)) plan (projections plan r)
zip-from r t [] each = tt
zip-from r t (first ∷ plan) each = (each first (Contains-head first plan), zip-from r t plan (λ scheme h. each scheme (Contains-later first plan scheme h)))

pub in_join-to : (n : ℕ) (plan : List Attributes) (r : Relation) (t : Tuple) → InJoin n plan (projections plan r) t → (scheme : Attributes) → Contains plan scheme → IsProjected r t scheme
in_join-to n plan r t joined = zip-to r t plan joined.in_each

pub in_join-from : (n : ℕ) (plan : List Attributes) (r : Relation) (t : Tuple) → length t ≡ n → ((scheme : Attributes) → Contains plan scheme → IsProjected r t scheme)
    → InJoin n plan (projections plan r) t
in_join-from n plan r t over each = record { over = over; in_each = zip-from r t plan each }

-- a tuple of the relation is in the join
pub tuple_in_join : (n : ℕ) (plan : List Attributes) (r : Relation) (t : Tuple) → IsOver n r → Contains r t → InJoin n plan (projections plan r) t
tuple_in_join n plan r t over t_in =
    in_join-from n plan r t (All-contains (λ (u : Tuple). length u ≡ n) r t over t_in) (λ scheme h. Contains-map (project_tuple scheme) r t t_in)

-- a tuple of the relation that agrees on the scheme
pub projected_tuple_agrees : (r : Relation) (t : Tuple) (scheme : Attributes) → IsProjected r t scheme → (u : Tuple) × Contains r u × AgreeOn scheme u t
projected_tuple_agrees r t scheme projected =
    let found = map-member (project_tuple scheme) r (project_tuple scheme t) projected in
    (found.0, found.1, agree-from_projections scheme found.0 t found.2)

pub projected-from : (n : ℕ) (r : Relation) (t u : Tuple) (scheme : Attributes) → IsOver n r → length t ≡ n → Contains r u → AgreeOn scheme u t → IsProjected r t scheme
projected-from n r t u scheme over long u_in agree =
    let same : project_tuple scheme u ≡ project_tuple scheme t = project_tuple-same scheme u t (All-contains (λ (v : Tuple). length v ≡ n) r u over u_in ∙ sym long) agree in
    subst (λ (p : Tuple). Contains (projection scheme r) p) same (Contains-map (project_tuple scheme) r u u_in)

-- ---- plans that are lossless where another one is
-- a plan is lossless where its joins have no tuple beyond those of a lossless one
pub lossless_from : (n : ℕ) (ds : List Dependency) (plan other : List Attributes) → IsLossless n ds plan → Covers n other
    → ((r : Relation) → IsLegal n ds r → (t : Tuple) → length t ≡ n → ((scheme : Attributes) → Contains other scheme → IsProjected r t scheme) → (scheme : Attributes) → Contains plan scheme → IsProjected r t scheme)
    → IsLossless n ds other
lossless_from n ds plan other lossless covers fewer = record {
  covers = covers;
  gains_none = λ r legal t joined.
      lossless.gains_none r legal t (in_join-from n plan r t joined.over (fewer r legal t joined.over (in_join-to n other r t joined)));
}

-- a scheme that lies within another one is dropped
pub contained_dropped : (n : ℕ) (ds : List Dependency) (before after : List Attributes) (scheme other : Attributes) → Contains (before ++ after) other → IsSubset scheme other
    → IsLossless n ds (before ++ scheme ∷ after) → IsLossless n ds (before ++ after)
contained_dropped n ds before after scheme other there inside lossless =
    lossless_from n ds (before ++ scheme ∷ after) (before ++ after) lossless
    (λ k low. cover k (lossless.covers k low))
    (λ r legal t long each s s_in. found r legal t long each s (Contains-append_cases before (scheme ∷ after) s s_in))
  where
    found : (r : Relation) → IsLegal n ds r → (t : Tuple) → length t ≡ n → ((s : Attributes) → Contains (before ++ after) s → IsProjected r t s) → (s : Attributes)
        → Contains before s ⊎ Contains (scheme ∷ after) s → IsProjected r t s
    found r legal t long each s contained = ⊎_elim
        (λ earlier. each s (Contains-append_left before after s earlier))
        (λ here. ⊎_elim
        (λ (same : s ≡ scheme).
        let u = projected_tuple_agrees r t other (each other there) in
        subst (λ (z : Attributes). IsProjected r t z) (sym same) (projected-from n r t u.0 scheme legal.over long u.1 (λ k m. u.2 k (inside k m))))
        (λ later. each s (Contains-append_right before after s later))
        (Contains-cases scheme after s here))
        contained

    cover : (k : ℕ) → Any (λ (s : Attributes). s k ≡ true) (before ++ scheme ∷ after) → Any (λ (s : Attributes). s k ≡ true) (before ++ after)
    cover k has = ⊎_elim
        (λ earlier. Any-from (λ (s : Attributes). s k ≡ true) (before ++ after) has.1 (Contains-append_left before after has.1 earlier) has.4)
        (λ here. ⊎_elim
        (λ (same : has.1 ≡ scheme). Any-from (λ (s : Attributes). s k ≡ true) (before ++ after) other there (inside k (subst (λ (s : Attributes). s k ≡ true) same has.4)))
        (λ later. Any-from (λ (s : Attributes). s k ≡ true) (before ++ after) has.1 (Contains-append_right before after has.1 later) has.4)
        (Contains-cases scheme after has.1 here))
        (Contains-append_cases before (scheme ∷ after) has.1 (has.0, has.2, has.3))

-- a scheme is split by a multivalued dependency that is implied on it
split_found : (n : ℕ) (scheme x y : Attributes) (r : Relation) (t : Tuple) → IsOver n r → length t ≡ n → IsSubset x scheme → Disjoint y x → ObeysMvd scheme x y r
    → IsProjected r t (union x y) → IsProjected r t (difference scheme y) → IsProjected r t scheme
split_found n scheme x y r t over long x_in apart obeys one rest =
    let u = projected_tuple_agrees r t (union x y) one in
    let v = projected_tuple_agrees r t (difference scheme y) rest in
    let x_beside : IsSubset x (difference scheme y) = λ (k : ℕ) m. grind (arith, m, x_in k, apart k) in
    let w = obeys u.0 v.0 u.1 v.1 (λ (k : ℕ) m. u.2 k (grind (arith, m)) ∙ sym (v.2 k (x_beside k m))) in
    projected-from n r t w.0 scheme over long w.1
    (λ (k : ℕ) m. elim (cases_Bool (union x y k)) [
      | inl in_xy ↦ w.2 k in_xy ∙ u.2 k in_xy
      | inr out ↦ w.3 k (grind (arith, m, out)) ∙ v.2 k (grind (arith, m, out))
    ])

pub split_lossless : (n : ℕ) (ds : List Dependency) (before after : List Attributes) (scheme x y : Attributes) → ImpliedOn n ds scheme (mvd x y) → Disjoint y x
    → IsLossless n ds (before ++ scheme ∷ after) → IsLossless n ds (before ++ union x y ∷ difference scheme y ∷ after)
split_lossless n ds before after scheme x y on apart lossless =
    lossless_from n ds (before ++ scheme ∷ after) (before ++ union x y ∷ difference scheme y ∷ after) lossless
    (λ k low. cover k (lossless.covers k low))
    (λ r legal t long each s s_in. found r legal t long each s (Contains-append_cases before (scheme ∷ after) s s_in))
  where
    halves : List Attributes
    halves = union x y ∷ difference scheme y ∷ after

    one_in : Contains (before ++ halves) (union x y)
    one_in = Contains-append_right before halves (union x y) (Contains-head (union x y) (difference scheme y ∷ after))

    rest_in : Contains (before ++ halves) (difference scheme y)
    rest_in = Contains-append_right before halves (difference scheme y) (Contains-later (union x y) (difference scheme y ∷ after) (difference scheme y) (Contains-head (difference scheme y) after))

    later_in : (s : Attributes) → Contains after s → Contains (before ++ halves) s
    later_in s h = Contains-append_right before halves s (Contains-later (union x y) (difference scheme y ∷ after) s (Contains-later (difference scheme y) after s h))

    found : (r : Relation) → IsLegal n ds r → (t : Tuple) → length t ≡ n → ((s : Attributes) → Contains (before ++ halves) s → IsProjected r t s) → (s : Attributes)
        → Contains before s ⊎ Contains (scheme ∷ after) s → IsProjected r t s
    found r legal t long each s contained = ⊎_elim
        (λ earlier. each s (Contains-append_left before halves s earlier))
        (λ here. ⊎_elim
        (λ (same : s ≡ scheme).
        let obeys = mvd_in-to scheme x y r on.within.0 on.within.1 (on.obeyed r legal) in
        subst (λ (z : Attributes). IsProjected r t z) (sym same)
        (split_found n scheme x y r t legal.over long on.within.0 apart obeys (each (union x y) one_in) (each (difference scheme y) rest_in)))
        (λ later. each s (later_in s later))
        (Contains-cases scheme after s here))
        contained

    of_scheme : (k : ℕ) → scheme k ≡ true → Any (λ (s : Attributes). s k ≡ true) (before ++ halves)
    of_scheme k m = elim (cases_Bool (y k)) [
      | inl in_y ↦ Any-from (λ (s : Attributes). s k ≡ true) (before ++ halves) (union x y) one_in (grind (arith, in_y))
      | inr out ↦ Any-from (λ (s : Attributes). s k ≡ true) (before ++ halves) (difference scheme y) rest_in (grind (arith, m, out))
    ]

    cover : (k : ℕ) → Any (λ (s : Attributes). s k ≡ true) (before ++ scheme ∷ after) → Any (λ (s : Attributes). s k ≡ true) (before ++ halves)
    cover k has = ⊎_elim
        (λ earlier. Any-from (λ (s : Attributes). s k ≡ true) (before ++ halves) has.1 (Contains-append_left before halves has.1 earlier) has.4)
        (λ here. ⊎_elim
        (λ (same : has.1 ≡ scheme). of_scheme k (subst (λ (s : Attributes). s k ≡ true) same has.4))
        (λ later. Any-from (λ (s : Attributes). s k ≡ true) (before ++ halves) has.1 (later_in has.1 later) has.4)
        (Contains-cases scheme after has.1 here))
        (Contains-append_cases before (scheme ∷ after) has.1 (has.0, has.2, has.3))
