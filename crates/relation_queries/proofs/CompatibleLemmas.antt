-- What a query gives depends on the values of its own attributes alone.
use Rattle.std.proofs.Common.{◌≡◌, ℕ, List, [], ◌∷◌, length, map, sym, subst, inl, inr, ◌∙◌, arith}
use Rattle.std.proofs.lemmas.Bool.{cases_Bool, ltb-true}
use Rattle.std.proofs.lemmas.Bool.Decides.{nat_tests}
use Rattle.std.proofs.lemmas.List.{ext_get_or}
use Rattle.std.specs.Prelude.{Contains, MatchOption, ⊤}
use Rattle.attr_sets.specs.Attributes.{below, union, IsSubset}
use Rattle.attr_sets.specs.Sets.{is_subset}
use Rattle.attr_sets.proofs.AttributesLemmas.{same_from_within, same_at}
use Rattle.dep_model.specs.Tuples.{Tuple, Relation, AgreeOn}
use Rattle.dep_model.specs.Dependencies.{Dependency, fd, mvd, IsWithin}
use Rattle.dep_model.specs.Projections.{projection, Covers}
use Rattle.dep_model.proofs.JoinLemmas.{project_tuple-same}
use Rattle.dep_model.proofs.ListLemmas.{Contains-head, Contains-later}
use Rattle.dep_model.proofs.TwoRowLemmas.{AgreeOn-sym, AgreeOn-trans}
use Rattle.relation_queries.specs.Queries.{TableQuery, StoredTable, whole, values_on, several, unpaired, join, except, kept, attributes_of, breaches_of, stored_query, joined_with, plan_join, table_beyond_view, view_beyond_table}
use Rattle.relation_queries.specs.Meanings.{Gives, IsUnionCompatible}
use Rattle.relation_queries.proofs.JoinedLemmas.{all_attributes}

same_whole : (n : ℕ) (t u : Tuple) → length t ≡ n → length u ≡ n → AgreeOn (below n) t u → t ≡ u
same_whole n t u lt lu agree = ext_get_or [] t u (lt ∙ sym lu) (λ (k : ℕ) l. agree k (grind (arith, nat_tests, l, lt)))

pub own_values : (n : ℕ) (q : TableQuery) (r : Relation) (t u : Tuple) → IsUnionCompatible n q → length t ≡ n → length u ≡ n
    → AgreeOn (attributes_of n q) t u → Gives q r t → Gives q r u
own_values n whole r t u even lt lu agree given = subst (λ (z : Tuple). Contains r z) (same_whole n t u lt lu agree) given
own_values n (values_on x) r t u even lt lu agree given =
    subst (λ (z : Tuple). Contains (projection x r) z) (project_tuple-same x t u (lt ∙ sym lu) agree) given
own_values n (several x y) r t u even lt lu agree given =
    let found = given.2 in (
      given.0,
      given.1,
      record {
        first = found.first;
        second = found.second;
        first_agrees = AgreeOn-trans x given.0 t u found.first_agrees agree;
        second_agrees = AgreeOn-trans x given.1 t u found.second_agrees agree;
        differ = found.differ;
      },
    )
own_values n (unpaired x y z) r t u even lt lu agree given =
    let found = given.2 in (
      given.0,
      given.1,
      record {
        first = found.first;
        second = found.second;
        first_agrees = AgreeOn-trans x given.0 t u found.first_agrees agree;
        second_agrees = AgreeOn-trans x given.1 t u found.second_agrees agree;
        no_pair = λ w w_in of_x. found.no_pair w w_in (AgreeOn-trans x w u t of_x (AgreeOn-sym x t u agree));
      },
    )
own_values n (join p q) r t u even lt lu agree given = (
  own_values n p r t u even.0 lt lu (λ (k : ℕ) m. agree k (grind (arith, m))) given.0,
  own_values n q r t u even.1 lt lu (λ (k : ℕ) m. agree k (grind (arith, m))) given.1,
)
own_values n (except p q) r t u even lt lu agree given = (
  own_values n p r t u even.0 lt lu agree given.0,
  λ back. given.1 (own_values n q r u t even.1 lu lt (λ (k : ℕ) m. sym (agree k (same_at even.2 k ∙ m))) back),
)
own_values n (kept name q) r t u even lt lu agree given = own_values n q r t u even lt lu agree given

-- ---- the queries of rules and of plans
pub breaches_even : (n : ℕ) (d : Dependency) → IsWithin (below n) d → MatchOption (breaches_of n d) ⊤ (λ q. IsUnionCompatible n q)
breaches_even n (fd x y) inside = elim (cases_Bool (is_subset y x)) [
  | inl within ↦ rw within tt
  | inr beyond ↦ rw beyond tt
]
breaches_even n (mvd x y) inside = elim (cases_Bool (is_subset y x)) [
  | inl within ↦ rw within tt
  | inr beyond ↦ elim (cases_Bool (is_subset (below n) (union x y))) [
    | inl all ↦ rw (beyond, all) tt
    | inr not_empty ↦ rw (beyond, not_empty) tt
  ]
]

joined_even : (n : ℕ) (q : TableQuery) (tables : List StoredTable) → IsUnionCompatible n q → IsUnionCompatible n (joined_with q tables)
joined_even n q [] even = even
joined_even n q (table ∷ tables) even = joined_even n (join q (stored_query table)) tables (even, tt)

join_even : (n : ℕ) (tables : List StoredTable) → IsUnionCompatible n (plan_join tables)
join_even n [] = tt
join_even n (table ∷ tables) = joined_even n (stored_query table) tables tt

abbrev pub AreWithin : ℕ → List StoredTable → Type 0
AreWithin n tables = (table : StoredTable) → Contains tables table → IsSubset table.scheme (below n)

joined_within : (n : ℕ) (q : TableQuery) (tables : List StoredTable) → IsSubset (attributes_of n q) (below n) → AreWithin n tables
    → IsSubset (attributes_of n (joined_with q tables)) (below n)
joined_within n q [] low each = low
joined_within n q (table ∷ tables) low each =
    joined_within n (join q (stored_query table)) tables
    (λ (k : ℕ) m. let first = low k in let second = each table (Contains-head table tables) k in grind (arith, m, first, second))
    (λ other h. each other (Contains-later table tables other h))

join_within : (n : ℕ) (tables : List StoredTable) → AreWithin n tables → IsSubset (attributes_of n (plan_join tables)) (below n)
join_within n [] each = λ (k : ℕ) m. grind (arith, m)
join_within n (table ∷ tables) each =
    joined_within n (stored_query table) tables (each table (Contains-head table tables)) (λ other h. each other (Contains-later table tables other h))

all_of_them : (n : ℕ) (tables : List StoredTable) → AreWithin n tables → Covers n (map (λ (table : StoredTable). table.scheme) tables)
    → attributes_of n (plan_join tables) ≡ below n
all_of_them n tables each covers =
    same_from_within (attributes_of n (plan_join tables)) (below n) (join_within n tables each)
    (λ (k : ℕ) m. all_attributes n tables covers k (ltb-true k n m))

pub differences_even : (n : ℕ) (name : List ℕ) (tables : List StoredTable) → AreWithin n tables
    → Covers n (map (λ (table : StoredTable). table.scheme) tables) → IsUnionCompatible n (table_beyond_view name tables) × IsUnionCompatible n (view_beyond_table name tables)
differences_even n name tables each covers =
    let all = all_of_them n tables each covers in
    ((tt, join_even n tables, sym all), (join_even n tables, tt, all))
