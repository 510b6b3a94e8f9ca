-- What the query of a dependency gives where a relation obeys it, and where it does not.
use Rattle.std.proofs.Common.{◌≡◌, ℕ, ◌<◌, ◌≤◌, ◌⊎◌, Bool, true, false, List, [], ◌∷◌, length, map, refl, sym, ap, subst, ◌∙◌, inl, inr, ⊎_elim, arith}
use Rattle.std.proofs.lemmas.Bool.{cases_Bool, cases_lt, true≢false, eqb-true, eq-eqb}
use Rattle.std.proofs.lemmas.Bool.Decides.{nat_tests}
use Rattle.std.proofs.lemmas.List.{get_or_past}
use Rattle.std.proofs.lemmas.List.FromFn.{length-map-range_with_len, get_or-map-range_with_len}
use Rattle.std.specs.Bool.{Decides}
use Rattle.std.specs.Cmp.Lexicographic.{pointwise, pointwise_decides}
use Rattle.std.specs.List.{range_with_len}
use Rattle.std.specs.Prelude.{◌↔◌, nat_eq, if◌then◌else◌, Contains, MatchOption}
use Rattle.attr_sets.specs.Attributes.{Attributes, below, union, difference, IsSubset}
use Rattle.attr_sets.specs.Sets.{is_subset}
use Rattle.attr_sets.specs.declared.set.TheConstants.{MOST_ATTRIBUTES}
use Rattle.attr_sets.proofs.AttributesLemmas.{is_subset-true}
use Rattle.dep_model.specs.Tuples.{Tuple, Relation, value_at, AgreeOn, IsOver, same_tuple}
use Rattle.dep_model.specs.Dependencies.{Dependency, fd, mvd, ObeysFd, ObeysMvd, Obeys, IsWithin}
use Rattle.dep_model.specs.Projections.{project_tuple}
use Rattle.dep_model.proofs.DistinctLemmas.{same_tuple-decides}
use Rattle.dep_model.proofs.ListLemmas.{Contains-head, Contains-later, Contains-cases}
use Rattle.dep_model.proofs.RuleLemmas.{reflexivity_obeyed, mreflexivity_obeyed}
use Rattle.dep_model.proofs.TwoRowLemmas.{AgreeOn-refl, AgreeOn-sym, AgreeOn-union, AgreeOn-trans}
use Rattle.dep_model.proofs.TupleLemmas.{IsOver-length, same_tuple-Contains}
use Rattle.relation_queries.specs.Queries.{TableQuery, several, unpaired, breaches_of}
use Rattle.relation_queries.specs.Meanings.{GivesNone}

-- ---- what can be said
bytes_decide : (a b : List ℕ) → Decides (pointwise nat_eq a b) (a ≡ b)
bytes_decide a b = pointwise_decides (λ (i j : ℕ). (eqb-true i j, eq-eqb i j)) a b

tell_value : (t u : Tuple) (k : ℕ) → (value_at t k ≡ value_at u k) ⊎ (value_at t k ≡ value_at u k → ⊥)
tell_value t u k = elim (cases_Bool (pointwise nat_eq (value_at t k) (value_at u k))) [
  | inl same ↦ inl ((bytes_decide (value_at t k) (value_at u k)).0 same)
  | inr differ ↦ inr (λ e. true≢false (sym ((bytes_decide (value_at t k) (value_at u k)).1 e) ∙ differ))
]

tell_tuple : (r : Relation) (t : Tuple) → Contains r t ⊎ (Contains r t → ⊥)
tell_tuple [] t = inr (λ h. absurd (omega (arith, h.1)))
tell_tuple (u ∷ r) t = elim (cases_Bool (same_tuple t u)) [
  | inl same ↦ inl (subst (λ (z : Tuple). Contains (z ∷ r) t) ((same_tuple-decides t u).0 same) (Contains-head t r))
  | inr differ ↦ ⊎_elim
      (λ there. inl (Contains-later u r t there))
      (λ not_there. inr (λ h. ⊎_elim (λ (first : t ≡ u). true≢false (sym ((same_tuple-decides t u).1 first) ∙ differ)) not_there (Contains-cases u r t h)))
      (tell_tuple r t)
]

-- ---- functional dependencies
fd_query_exact : (n : ℕ) (x y : Attributes) (r : Relation) → IsOver n r → GivesNone n (several x (union x y)) r ↔ ObeysFd x y r
fd_query_exact n x y r over = (to, from)
  where
    to : GivesNone n (several x (union x y)) r → ObeysFd x y r
    to none t u t_in u_in agree k m = elim (tell_value t u k) [
      | inl same ↦ same
      | inr differ ↦
          let both : union x y k ≡ true = grind (arith, m) in
          absurd (none (project_tuple x t) (record {
            tuple = t;
            over = IsOver-length n r t over t_in;
            gives = (
              t,
              u,
              record {
                first = t_in;
                second = u_in;
                first_agrees = AgreeOn-refl x t;
                second_agrees = AgreeOn-sym x t u agree;
                differ = λ all. differ (all k both);
              },
            );
            values = refl;
          }))
    ]

    from : ObeysFd x y r → GivesNone n (several x (union x y)) r
    from obeys s given =
        let u = given.gives.0 in
        let v = given.gives.1 in
        let found = given.gives.2 in
        let agree = AgreeOn-trans x u given.tuple v found.first_agrees (AgreeOn-sym x v given.tuple found.second_agrees) in
        found.differ (AgreeOn-union x y u v agree (obeys u v found.first found.second agree))

-- ---- a tuple with the values of one on a set, and of another elsewhere
abbrev splice : ℕ → Attributes → Tuple → Tuple → Tuple
splice n z t u = map (λ k. if z k then value_at t k else value_at u k) (range_with_len 0 n)

length-splice : (n : ℕ) (z : Attributes) (t u : Tuple) → length (splice n z t u) ≡ n
length-splice n z t u = length-map-range_with_len (λ (k : ℕ). if z k then value_at t k else value_at u k) 0 n

value_at-splice : (n : ℕ) (z : Attributes) (t u : Tuple) (k : ℕ) → k < n → value_at (splice n z t u) k ≡ (if z k then value_at t k else value_at u k)
value_at-splice n z t u k low = get_or-map-range_with_len (λ (j : ℕ). if z j then value_at t j else value_at u j) 0 n k k [] low (omega arith)

splice-past : (n : ℕ) (z : Attributes) (t u s : Tuple) (k : ℕ) → length s ≡ n → n ≤ k → value_at (splice n z t u) k ≡ value_at s k
splice-past n z t u s k long past =
    get_or_past (splice n z t u) k [] (omega (arith, length-splice n z t u, past))
    ∙ sym (get_or_past s k [] (omega (arith, long, past)))

splice-inside : (n : ℕ) (z : Attributes) (t u : Tuple) → length t ≡ n → AgreeOn z t (splice n z t u)
splice-inside n z t u long k m = elim (cases_lt k n) [
  | inl low ↦ sym (value_at-splice n z t u k low ∙ ap (λ (b : Bool). if b then value_at t k else value_at u k) m)
  | inr past ↦ sym (splice-past n z t u t k long (omega (arith, past)))
]

splice-outside : (n : ℕ) (z : Attributes) (t u : Tuple) (k : ℕ) → length u ≡ n → z k ≡ false → value_at u k ≡ value_at (splice n z t u) k
splice-outside n z t u k long out = elim (cases_lt k n) [
  | inl low ↦ sym (value_at-splice n z t u k low ∙ ap (λ (b : Bool). if b then value_at t k else value_at u k) out)
  | inr past ↦ sym (splice-past n z t u u k long (omega (arith, past)))
]

-- ---- multivalued dependencies
abbrev mvd_breaches : ℕ → Attributes → Attributes → TableQuery
mvd_breaches n x y = unpaired x (difference y x) (difference (below n) (union x y))

-- the one tuple that has the values of t on xy and those of u elsewhere
spliced_alone : (n : ℕ) (x y : Attributes) (t u w : Tuple) → length t ≡ n → length u ≡ n → length w ≡ n
    → AgreeOn x w t → AgreeOn (difference y x) w t → AgreeOn (difference (below n) (union x y)) w u → w ≡ splice n (union x y) t u
spliced_alone n x y t u w lt lu lw of_x of_y of_z =
    same_tuple-Contains n w (splice n (union x y) t u) lw (length-splice n (union x y) t u) (λ (k : ℕ) low. elim (cases_Bool (union x y k)) [
      | inl m ↦ elim (cases_Bool (x k)) [
        | inl in_x ↦ of_x k in_x ∙ splice-inside n (union x y) t u lt k m
        | inr out ↦ of_y k (grind (arith, m, out)) ∙ splice-inside n (union x y) t u lt k m
      ]
      | inr out ↦ of_z k (grind (arith, nat_tests, low, out)) ∙ splice-outside n (union x y) t u k lu out
    ])

mvd_query_exact : (n : ℕ) (x y : Attributes) (r : Relation) → IsOver n r → GivesNone n (mvd_breaches n x y) r ↔ ObeysMvd (below n) x y r
mvd_query_exact n x y r over = (to, from)
  where
    to : GivesNone n (mvd_breaches n x y) r → ObeysMvd (below n) x y r
    to none t u t_in u_in agree =
        let w = splice n (union x y) t u in
        let lt = IsOver-length n r t over t_in in
        let lu = IsOver-length n r u over u_in in
        elim (tell_tuple r w) [
          | inl w_in ↦ (
            w,
            w_in,
            AgreeOn-sym (union x y) t w (splice-inside n (union x y) t u lt),
            λ (k : ℕ) m. sym (splice-outside n (union x y) t u k lu (grind (arith, m))),
          )
          | inr out ↦ absurd (none (project_tuple x t) (record {
            tuple = t;
            over = lt;
            gives = (
              t,
              u,
              record {
                first = t_in;
                second = u_in;
                first_agrees = AgreeOn-refl x t;
                second_agrees = AgreeOn-sym x t u agree;
                no_pair = λ v v_in of_x of_y of_z. out (subst (λ (z : Tuple). Contains r z)
                    (spliced_alone n x y t u v lt lu (IsOver-length n r v over v_in) of_x of_y of_z) v_in);
              },
            );
            values = refl;
          }))
        ]

    from : ObeysMvd (below n) x y r → GivesNone n (mvd_breaches n x y) r
    from obeys s given =
        let u = given.gives.0 in
        let v = given.gives.1 in
        let found = given.gives.2 in
        let agree = AgreeOn-trans x u given.tuple v found.first_agrees (AgreeOn-sym x v given.tuple found.second_agrees) in
        let w = obeys u v found.first found.second agree in
        found.no_pair w.0 w.1 (λ (k : ℕ) m. w.2 k (grind (arith, m)) ∙ found.first_agrees k m) (λ (k : ℕ) m. w.2 k (grind (arith, m))) w.3

-- where the universe lies within xy nothing is left
mvd_whole : (n : ℕ) (x y : Attributes) (r : Relation) → IsSubset (below n) (union x y) → ObeysMvd (below n) x y r
mvd_whole n x y r inside t u t_in u_in agree =
    (t, t_in, AgreeOn-refl (union x y) t, λ (k : ℕ) m. absurd (let all = inside k in grind (arith, m, all)))

-- ---- the law

pub breaches_tell : (n : ℕ) (d : Dependency) (r : Relation) → n ≤ MOST_ATTRIBUTES → IsWithin (below n) d → IsOver n r
    → MatchOption (breaches_of n d) (Obeys n d r) (λ q. GivesNone n q r ↔ Obeys n d r)
breaches_tell n (fd x y) r within_limit inside over =
    let low : IsSubset y (below MOST_ATTRIBUTES) = λ (k : ℕ) m. let at = inside.1 k m in grind (arith, nat_tests, at, within_limit) in
    elim (cases_Bool (is_subset y x)) [
      | inl within ↦ rw within (reflexivity_obeyed x y r (is_subset-true y x low within))
      | inr beyond ↦ rw beyond (fd_query_exact n x y r over)
    ]
breaches_tell n (mvd x y) r within_limit inside over =
    let low : IsSubset y (below MOST_ATTRIBUTES) = λ (k : ℕ) m. let at = inside.1 k m in grind (arith, nat_tests, at, within_limit) in
    let all_low : IsSubset (below n) (below MOST_ATTRIBUTES) = λ (k : ℕ) m. grind (arith, nat_tests, m, within_limit) in
    elim (cases_Bool (is_subset y x)) [
      | inl within ↦ rw within (mreflexivity_obeyed (below n) x y r (is_subset-true y x low within))
      | inr beyond ↦ elim (cases_Bool (is_subset (below n) (union x y))) [
        | inl all ↦ rw (beyond, all) (mvd_whole n x y r (is_subset-true (below n) (union x y) all_low all))
        | inr not_empty ↦ rw (beyond, not_empty) (mvd_query_exact n x y r over)
      ]
    ]
