-- What the join of the tables of a plan gives, and the values on a scheme.
use Rattle.std.proofs.Common.{◌≡◌, ℕ, ◌<◌, true, List, [], ◌∷◌, length, map, refl, sym, subst, ◌∙◌, ⊎_elim, arith}
use Rattle.std.proofs.lemmas.List.Elements.{All-contains}
use Rattle.std.specs.Prelude.{◌↔◌, Contains}
use Rattle.attr_sets.specs.Attributes.{Attributes}
use Rattle.dep_model.specs.Tuples.{Tuple, Relation, IsOver}
use Rattle.dep_model.specs.Dependencies.{Dependency}
use Rattle.dep_model.specs.Implication.{IsLegal}
use Rattle.dep_model.specs.Projections.{project_tuple, projection, ordered_projection, Covers, IsLossless}
use Rattle.dep_model.proofs.DistinctLemmas.{ordered_projection-same}
use Rattle.dep_model.proofs.JoinLemmas.{IsProjected, in_join-from}
use Rattle.dep_model.proofs.ListLemmas.{Contains-map, Contains-later, Contains-cases, map-member}
use Rattle.dep_model.proofs.SchemeLemmas.{project_tuple-whole}
use Rattle.relation_queries.specs.Queries.{TableQuery, StoredTable, values_on, join, stored_query, attributes_of, joined_with, plan_join, table_beyond_view, view_beyond_table}
use Rattle.relation_queries.specs.Meanings.{Gives, IsGiven, GivesNone}

-- ---- the values on a scheme
pub values_given : (n : ℕ) (scheme : Attributes) (r : Relation) (u : Tuple) → IsOver n r → IsGiven n (values_on scheme) r u ↔ Contains (ordered_projection scheme r) u
values_given n scheme r u over = (to, from)
  where
    to : IsGiven n (values_on scheme) r u → Contains (ordered_projection scheme r) u
    to given = (ordered_projection-same scheme r u).0 (subst (λ (z : Tuple). Contains (projection scheme r) z) (sym given.values) given.gives)

    from : Contains (ordered_projection scheme r) u → IsGiven n (values_on scheme) r u
    from h =
        let found = map-member (project_tuple scheme) r u ((ordered_projection-same scheme r u).1 h) in
        record {
          tuple = found.0;
          over = All-contains (λ (t : Tuple). length t ≡ n) r found.0 over found.1;
          gives = Contains-map (project_tuple scheme) r found.0 found.1;
          values = sym found.2;
        }

-- ---- joins
-- a tuple's values are in each table of a list
abbrev InEach : List StoredTable → Relation → Tuple → Type 0
InEach tables r t = (table : StoredTable) → Contains tables table → IsProjected r t table.scheme

none_in : (r : Relation) (t : Tuple) → InEach [] r t
none_in r t table h = absurd (omega (arith, h.1))

in_first : (first : StoredTable) (tables : List StoredTable) (r : Relation) (t : Tuple) → IsProjected r t first.scheme → InEach tables r t → InEach (first ∷ tables) r t
in_first first tables r t here rest table h = ⊎_elim
    (λ (same : table ≡ first). subst (λ (z : StoredTable). IsProjected r t z.scheme) (sym same) here)
    (λ later. rest table later)
    (Contains-cases first tables table h)

first_of_each : (first : StoredTable) (tables : List StoredTable) (r : Relation) (t : Tuple) → InEach (first ∷ tables) r t → IsProjected r t first.scheme
first_of_each first tables r t each = each first (0, omega arith, refl)

rest_of_each : (first : StoredTable) (tables : List StoredTable) (r : Relation) (t : Tuple) → InEach (first ∷ tables) r t → InEach tables r t
rest_of_each first tables r t each table h = each table (Contains-later first tables table h)

joined-to : (q : TableQuery) (tables : List StoredTable) (r : Relation) (t : Tuple) → Gives (joined_with q tables) r t → Gives q r t × InEach tables r t
joined-to q [] r t given = (given, none_in r t)
joined-to q (first ∷ tables) r t given =
    let rest = joined-to (join q (stored_query first)) tables r t given in
    (rest.0.0, in_first first tables r t rest.0.1 rest.1)

joined-from : (q : TableQuery) (tables : List StoredTable) (r : Relation) (t : Tuple) → Gives q r t → InEach tables r t → Gives (joined_with q tables) r t
joined-from q [] r t given each = given
joined-from q (first ∷ tables) r t given each =
    joined-from (join q (stored_query first)) tables r t (given, first_of_each first tables r t each) (rest_of_each first tables r t each)

join-to : (tables : List StoredTable) (r : Relation) (t : Tuple) → Gives (plan_join tables) r t → InEach tables r t
join-to [] r t given = none_in r t
join-to (first ∷ tables) r t given =
    let found = joined-to (stored_query first) tables r t given in
    in_first first tables r t found.0 found.1

-- ---- the attributes of a join
more_attributes : (n : ℕ) (q : TableQuery) (tables : List StoredTable) (k : ℕ) → attributes_of n q k ≡ true → attributes_of n (joined_with q tables) k ≡ true
more_attributes n q [] k m = m
more_attributes n q (first ∷ tables) k m = more_attributes n (join q (stored_query first)) tables k (grind (arith, m))

later_attributes : (n : ℕ) (q : TableQuery) (tables : List StoredTable) (table : StoredTable) (k : ℕ) → Contains tables table → table.scheme k ≡ true
    → attributes_of n (joined_with q tables) k ≡ true
later_attributes n q [] table k h m = absurd (omega (arith, h.1))
later_attributes n q (first ∷ tables) table k h m = ⊎_elim
    (λ (same : table ≡ first).
    let m' : first.scheme k ≡ true = subst (λ (z : StoredTable). z.scheme k ≡ true) same m in
    more_attributes n (join q (stored_query first)) tables k (grind (arith, m')))
    (λ later. later_attributes n (join q (stored_query first)) tables table k later m)
    (Contains-cases first tables table h)

attributes_in : (n : ℕ) (tables : List StoredTable) (table : StoredTable) (k : ℕ) → Contains tables table → table.scheme k ≡ true → attributes_of n (plan_join tables) k ≡ true
attributes_in n [] table k h m = absurd (omega (arith, h.1))
attributes_in n (first ∷ tables) table k h m = ⊎_elim
    (λ (same : table ≡ first). more_attributes n (stored_query first) tables k (subst (λ (z : StoredTable). z.scheme k ≡ true) same m))
    (λ later. later_attributes n (stored_query first) tables table k later m)
    (Contains-cases first tables table h)

abbrev pub schemes_of_tables : List StoredTable → List Attributes
schemes_of_tables tables = map (λ table. table.scheme) tables

pub all_attributes : (n : ℕ) (tables : List StoredTable) → Covers n (schemes_of_tables tables) → (k : ℕ) → k < n → attributes_of n (plan_join tables) k ≡ true
all_attributes n tables covers k low =
    let has = covers k low in
    let found = map-member (λ (table : StoredTable). table.scheme) tables has.1 (has.0, has.2, has.3) in
    attributes_in n tables found.0 k found.1 (subst (λ (z : Attributes). z k ≡ true) (sym found.2) has.4)

-- ---- the tables of a lossless plan
gives_legal : (n : ℕ) (ds : List Dependency) (tables : List StoredTable) (r : Relation) (t : Tuple) → IsLossless n ds (schemes_of_tables tables) → IsLegal n ds r
    → length t ≡ n → Gives (plan_join tables) r t → Contains r t
gives_legal n ds tables r t lossless legal long given =
    lossless.gains_none r legal t (in_join-from n (schemes_of_tables tables) r t long (λ scheme h.
    let found = map-member (λ (table : StoredTable). table.scheme) tables scheme h in
    subst (λ (z : Attributes). IsProjected r t z) found.2 (join-to tables r t given found.0 found.1)))

legal_gives : (n : ℕ) (ds : List Dependency) (tables : List StoredTable) (r : Relation) (t : Tuple) → 0 < n → IsLossless n ds (schemes_of_tables tables)
    → Contains r t → Gives (plan_join tables) r t
legal_gives n ds [] r t not_empty lossless t_in = let has = lossless.covers 0 not_empty in absurd (omega (arith, has.2))
legal_gives n ds (first ∷ tables) r t not_empty lossless t_in =
    joined-from (stored_query first) tables r t (Contains-map (project_tuple first.scheme) r t t_in) (λ table h. Contains-map (project_tuple table.scheme) r t t_in)

pub join_given : (n : ℕ) (ds : List Dependency) (tables : List StoredTable) (r : Relation) → 0 < n → IsLossless n ds (schemes_of_tables tables) → IsLegal n ds r
    → (t : Tuple) → IsGiven n (plan_join tables) r t ↔ Contains r t
join_given n ds tables r not_empty lossless legal t = (to, from)
  where
    its_own : (u : Tuple) → length u ≡ n → project_tuple (attributes_of n (plan_join tables)) u ≡ u
    its_own u long = project_tuple-whole (attributes_of n (plan_join tables)) u (λ (k : ℕ) l. all_attributes n tables lossless.covers k (omega (arith, l, long)))

    to : IsGiven n (plan_join tables) r t → Contains r t
    to given =
        let same : given.tuple ≡ t = sym (given.values ∙ its_own given.tuple given.over) in
        subst (λ (z : Tuple). Contains r z) same (gives_legal n ds tables r given.tuple lossless legal given.over given.gives)

    from : Contains r t → IsGiven n (plan_join tables) r t
    from t_in =
        let long : length t ≡ n = All-contains (λ (u : Tuple). length u ≡ n) r t legal.over t_in in
        record { tuple = t; over = long; gives = legal_gives n ds tables r t not_empty lossless t_in; values = sym (its_own t long) }

pub nothing_left : (n : ℕ) (ds : List Dependency) (name : List ℕ) (tables : List StoredTable) (r : Relation) → 0 < n → IsLossless n ds (schemes_of_tables tables) → IsLegal n ds r
    → GivesNone n (table_beyond_view name tables) r × GivesNone n (view_beyond_table name tables) r
nothing_left n ds name tables r not_empty lossless legal = (
  λ u given. given.gives.1 (legal_gives n ds tables r given.tuple not_empty lossless given.gives.0),
  λ u given. given.gives.1 (gives_legal n ds tables r given.tuple lossless legal given.over given.gives.0),
)
