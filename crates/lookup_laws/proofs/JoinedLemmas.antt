-- The natural join of the tables that are not optional: by the order of look-ups from its end, since what an optional
-- table has beside its key stands in no table before it.
use Rattle.std.proofs.Common.{inl, inr, ◌≡◌, ◌⊎◌, ℕ, Bool, true, false, not, cond, List, [], ◌∷◌, length, map, refl, sym, ap, subst, ◌∙◌, arith}
use Rattle.std.proofs.lemmas.Bool.{cases_Bool, cases_lt, true≢false, and_from, not_from_false}
use Rattle.std.proofs.lemmas.List.{get_or_past}
use Rattle.std.proofs.lemmas.List.FromFn.{length-map-range_with_len, get_or-map-range_with_len}
use Rattle.std.proofs.lemmas.List.Elements.{All-contains}
use Rattle.std.specs.List.{range_with_len}
use Rattle.std.specs.Prelude.{Contains}
use Rattle.attr_sets.specs.Attributes.{Attributes, Disjoint, IsSubset, difference}
use Rattle.attr_sets.specs.Sets.{attributes}
use Rattle.attr_sets.specs.declared.set.TheConstants.{MOST_ATTRIBUTES}
use Rattle.attr_sets.proofs.AttributesLemmas.{attributes_below, tell_apart}
use Rattle.dep_model.specs.Dependencies.{Dependency}
use Rattle.dep_model.specs.Implication.{IsLegal}
use Rattle.dep_model.specs.Projections.{projection, project_tuple, IsLossless}
use Rattle.dep_model.specs.Tuples.{Tuple, Relation, value_at, AgreeOn, IsOver}
use Rattle.dep_model.proofs.JoinLemmas.{in_join-from, projected-from}
use Rattle.dep_model.proofs.ListLemmas.{map-member, Contains-nil, Contains-head, Contains-later, Contains-cases}
use Rattle.optional_tables.specs.declared.keyed.KeyedScheme.{KeyedScheme}
use Rattle.optional_tables.specs.Homes.{is_optional, has_outside_key, has_home}
use Rattle.optional_tables.specs.Readable.{IsReadable}
use Rattle.optional_tables.specs.Order.{HomesComeFirst}
use Rattle.optional_tables.specs.LookUps.{schemes_of_tables}
use Rattle.lookup_laws.proofs.OrderLemmas.{AreOrdered}
use Rattle.lookup_laws.proofs.HomeLemmas.{home_found, has_home_more, home_is_outside, same_home}
use Rattle.optional_tables.proofs.HomeLemmas.{optional_from, home_has_key}

-- ---- a tuple with the values of one tuple on a set, and of another elsewhere
abbrev mixed : ℕ → Attributes → Tuple → Tuple → Tuple
mixed n x t u = map (λ k. cond (x k) (value_at t k) (value_at u k)) (range_with_len 0 n)

length_mixed : (n : ℕ) (x : Attributes) (t u : Tuple) → length (mixed n x t u) ≡ n
length_mixed n x t u = length-map-range_with_len (λ (k : ℕ). cond (x k) (value_at t k) (value_at u k)) 0 n

mixed_at : (n : ℕ) (x : Attributes) (t u : Tuple) (k : ℕ) → length t ≡ n → length u ≡ n
    → value_at (mixed n x t u) k ≡ cond (x k) (value_at t k) (value_at u k)
mixed_at n x t u k t_long u_long = elim (cases_lt k n) [
  | inl low ↦
      get_or-map-range_with_len (λ (j : ℕ). cond (x j) (value_at t j) (value_at u j)) 0 n k k [] low (omega arith)
  | inr high ↦
      get_or_past (mixed n x t u) k [] (omega (arith, high, length_mixed n x t u))
      ∙ sym (one_of (x k) (get_or_past t k [] (omega (arith, high, t_long))) (get_or_past u k [] (omega (arith, high, u_long))))
]
  where
    one_of : (b : Bool) → value_at t k ≡ [] → value_at u k ≡ [] → cond b (value_at t k) (value_at u k) ≡ []
    one_of true t_none u_none = t_none
    one_of false t_none u_none = u_none

mixed_inside : (n : ℕ) (x : Attributes) (t u : Tuple) (k : ℕ) → length t ≡ n → length u ≡ n → x k ≡ true
    → value_at (mixed n x t u) k ≡ value_at t k
mixed_inside n x t u k t_long u_long inside =
    mixed_at n x t u k t_long u_long ∙ ap (λ (b : Bool). cond b (value_at t k) (value_at u k)) inside

mixed_outside : (n : ℕ) (x : Attributes) (t u : Tuple) (k : ℕ) → length t ≡ n → length u ≡ n → x k ≡ false
    → value_at (mixed n x t u) k ≡ value_at u k
mixed_outside n x t u k t_long u_long outside =
    mixed_at n x t u k t_long u_long ∙ ap (λ (b : Bool). cond b (value_at t k) (value_at u k)) outside

-- ---- joins
-- a tuple of a relation agrees with another on the scheme of a table
abbrev pub HasRowIn : Relation → Tuple → KeyedScheme → Type 0
HasRowIn r t table = (u : Tuple) × Contains r u × AgreeOn (attributes table.scheme) u t

-- two tuples agree on the scheme of each of some tables
abbrev pub AgreeOnEach : List KeyedScheme → Tuple → Tuple → Type 0
AgreeOnEach tables u t = (table : KeyedScheme) → Contains tables table → AgreeOn (attributes table.scheme) u t

-- the natural join of the projections on some tables is the relation, on their attributes
abbrev pub JoinsRows : ℕ → Relation → List KeyedScheme → Type 0
JoinsRows n r tables = (t : Tuple) → length t ≡ n → ((table : KeyedScheme) → Contains tables table → HasRowIn r t table)
    → (u : Tuple) × Contains r u × AgreeOnEach tables u t

-- each optional one of some tables has its home among them
abbrev pub HomesAreIn : Attributes → List KeyedScheme → Type 0
HomesAreIn nullable tables =
    (table : KeyedScheme) → Contains tables table → is_optional nullable table ≡ true → has_home nullable tables table ≡ true

-- what a table has beside its key
abbrev beside : KeyedScheme → Attributes
beside table = difference (attributes table.scheme) (attributes table.key)

-- ---- one table less
-- a table that has its key in another, and what it has beside that in none
apart_left_out : (n : ℕ) (r : Relation) (table home : KeyedScheme) (joined : List KeyedScheme) → IsOver n r
    → Contains joined home → IsSubset (attributes table.key) (attributes home.scheme)
    → ((other : KeyedScheme) → Contains joined other → Disjoint (attributes other.scheme) (beside table))
    → JoinsRows n r (table ∷ joined) → JoinsRows n r joined
apart_left_out n r table home joined over home_in inside apart joins t long each =
    let (w, w_in, w_same) = each home home_in in
    let w_long : length w ≡ n = All-contains (λ (v : Tuple). length v ≡ n) r w over w_in in
    let m = mixed n (beside table) w t in
    let all : (other : KeyedScheme) → Contains (table ∷ joined) other → HasRowIn r m other =
    λ other other_in. elim (Contains-cases table joined other other_in) [
      | inl first ↦ subst (λ (z : KeyedScheme). HasRowIn r m z) (sym first) (w, w_in, own_row w w_long w_same)
      | inr later ↦
          let (v, v_in, v_same) = each other later in
          (v, v_in, λ k has. v_same k has ∙ sym (mixed_outside n (beside table) w t k w_long long (apart other later k has)))
    ] in
    let (u, u_in, u_same) = joins m (length_mixed n (beside table) w t) all in (
      u,
      u_in,
      λ other other_in k has. u_same other (Contains-later table joined other other_in) k has
          ∙ mixed_outside n (beside table) w t k w_long long (apart other other_in k has),
    )
  where
    in_key : (k : ℕ) → attributes table.scheme k ≡ true → beside table k ≡ false → attributes table.key k ≡ true
    in_key k has not_beside = elim (cases_Bool (attributes table.key k)) [
      | inl is ↦ is
      | inr is_not ↦ absurd (true≢false
          (sym (and_from (attributes table.scheme k) (not (attributes table.key k)) has (not_from_false (attributes table.key k) is_not))
          ∙ not_beside))
    ]

    own_row : (w : Tuple) → length w ≡ n → AgreeOn (attributes home.scheme) w t
        → AgreeOn (attributes table.scheme) w (mixed n (beside table) w t)
    own_row w w_long w_same k has = elim (cases_Bool (beside table k)) [
      | inl is_beside ↦ sym (mixed_inside n (beside table) w t k w_long long is_beside)
      | inr not_beside ↦
          w_same k (inside k (in_key k has not_beside)) ∙ sym (mixed_outside n (beside table) w t k w_long long not_beside)
    ]

-- a table that is there already
present_left_out : (n : ℕ) (r : Relation) (table : KeyedScheme) (joined : List KeyedScheme) → Contains joined table
    → JoinsRows n r (table ∷ joined) → JoinsRows n r joined
present_left_out n r table joined there joins t long each =
    let (u, u_in, u_same) = joins t long (λ other other_in. elim (Contains-cases table joined other other_in) [
      | inl first ↦ subst (λ (z : KeyedScheme). HasRowIn r t z) (sym first) (each table there)
      | inr later ↦ each other later
    ]) in
    (u, u_in, λ other other_in. u_same other (Contains-later table joined other other_in))

-- an optional table whose attributes beside its key stand in a table among others, in which homes are, is among them
pub among_already : (nullable : Attributes) (tables joined : List KeyedScheme) (table other : KeyedScheme) (a : ℕ)
    → IsReadable nullable tables → ((t : KeyedScheme) → Contains joined t → Contains tables t) → HomesAreIn nullable joined
    → Contains tables table → is_optional nullable table ≡ true → Contains joined other
    → attributes other.scheme a ≡ true → has_outside_key table a ≡ true → Contains joined table
among_already nullable tables joined table other a readable within homes table_in optional other_in has outside =
    elim (cases_Bool (attributes other.key a)) [
      | inl in_key ↦
          let (home, home_in, is) = home_found nullable joined other
          (homes other other_in (optional_from nullable other a in_key may)) in
          is_there home home_in (home_is_outside nullable other home a is in_key may)
      | inr out_of_key ↦
          is_there other other_in (and_from (attributes other.scheme a) (not (attributes other.key a)) has
          (not_from_false (attributes other.key a) out_of_key))
    ]
  where
    may : nullable a ≡ true
    may = (readable.looked_up table table_in optional).beside a outside

    is_there : (home : KeyedScheme) → Contains joined home → has_outside_key home a ≡ true → Contains joined table
    is_there home home_in home_has =
        subst (Contains joined)
        (same_home tables a home table (readable.homes a may) (within home home_in) table_in home_has outside) home_in

apart_or_among : (nullable : Attributes) (tables joined : List KeyedScheme) (table : KeyedScheme) → IsReadable nullable tables
    → ((t : KeyedScheme) → Contains joined t → Contains tables t) → HomesAreIn nullable joined
    → Contains tables table → is_optional nullable table ≡ true
    → (part : List KeyedScheme) → ((t : KeyedScheme) → Contains part t → Contains joined t)
    → Contains joined table ⊎ ((t : KeyedScheme) → Contains part t → Disjoint (attributes t.scheme) (beside table))
apart_or_among nullable tables joined table readable within homes table_in optional [] part_in =
    inr (λ t h. absurd (Contains-nil t h))
apart_or_among nullable tables joined table readable within homes table_in optional (first ∷ part) part_in =
    elim (tell_apart MOST_ATTRIBUTES (attributes first.scheme) (beside table) (attributes_below first.scheme)) [
      | inl common ↦
          let (a, has, outside) = common in
          inl (among_already nullable tables joined table first a readable within homes table_in optional
          (part_in first (Contains-head first part)) has outside)
      | inr apart ↦ elim (apart_or_among nullable tables joined table readable within homes table_in optional part
          (λ t h. part_in t (Contains-later first part t h))) [
            | inl there ↦ inl there
            | inr others ↦ inr (λ t h. elim (Contains-cases first part t h) [
              | inl is_first ↦ subst (λ (z : KeyedScheme). Disjoint (attributes z.scheme) (beside table)) (sym is_first) apart
              | inr later ↦ others t later
            ])
          ]
    ]

-- ---- all tables, and then those that are not optional
-- some tables with those of an order
abbrev pub with_all : List KeyedScheme → List KeyedScheme → List KeyedScheme
with_all joined [] = joined
with_all joined (table ∷ order) = with_all (table ∷ joined) order

pub with_all_left : (joined order : List KeyedScheme) (table : KeyedScheme) → Contains joined table → Contains (with_all joined order) table
with_all_left joined [] table h = h
with_all_left joined (first ∷ order) table h = with_all_left (first ∷ joined) order table (Contains-later first joined table h)

pub with_all_right : (joined order : List KeyedScheme) (table : KeyedScheme) → Contains order table → Contains (with_all joined order) table
with_all_right joined [] table h = absurd (Contains-nil table h)
with_all_right joined (first ∷ order) table h = elim (Contains-cases first order table h) [
  | inl is_first ↦
      with_all_left (first ∷ joined) order table
      (subst (λ (z : KeyedScheme). Contains (z ∷ joined) table) is_first (Contains-head table joined))
  | inr later ↦ with_all_right (first ∷ joined) order table later
]

homes_with : (nullable : Attributes) (table : KeyedScheme) (joined : List KeyedScheme) → HomesAreIn nullable joined
    → has_home nullable joined table ≡ true → HomesAreIn nullable (table ∷ joined)
homes_with nullable table joined homes has other other_in optional = elim (Contains-cases table joined other other_in) [
  | inl first ↦
      has_home_more nullable table joined other (subst (λ (z : KeyedScheme). has_home nullable joined z ≡ true) (sym first) has)
  | inr later ↦ has_home_more nullable table joined other (homes other later optional)
]

joins_before : (n : ℕ) (r : Relation) (nullable : Attributes) (tables : List KeyedScheme) → IsOver n r → IsReadable nullable tables
    → (order joined : List KeyedScheme) → ((t : KeyedScheme) → Contains joined t → Contains tables t)
    → ((t : KeyedScheme) → Contains order t → Contains tables t × (is_optional nullable t ≡ true))
    → HomesAreIn nullable joined → HomesComeFirst nullable joined order
    → JoinsRows n r (with_all joined order) → JoinsRows n r joined
joins_before n r nullable tables over readable [] joined within order_in homes first joins = joins
joins_before n r nullable tables over readable (table ∷ order) joined within order_in homes first joins =
    let (table_in, optional) = order_in table (Contains-head table order) in
    let more : JoinsRows n r (table ∷ joined) =
    joins_before n r nullable tables over readable order (table ∷ joined) (within_with table_in)
    (λ t h. order_in t (Contains-later table order t h)) (homes_with nullable table joined homes first.0) first.1 joins in
    let (home, home_in, is) = home_found nullable joined table first.0 in
    elim (apart_or_among nullable tables joined table readable within homes table_in optional joined (λ t h. h)) [
      | inl there ↦ present_left_out n r table joined there more
      | inr apart ↦ apart_left_out n r table home joined over home_in (home_has_key nullable table home is) apart more
    ]
  where
    within_with : Contains tables table → (t : KeyedScheme) → Contains (table ∷ joined) t → Contains tables t
    within_with table_in t h = elim (Contains-cases table joined t h) [
      | inl is_first ↦ subst (Contains tables) (sym is_first) table_in
      | inr later ↦ within t later
    ]

-- tables of a plan without loss join to the rows
lossless_joins : (n : ℕ) (ds : List Dependency) (r : Relation) (tables all : List KeyedScheme) → IsLegal n ds r
    → IsLossless n ds (schemes_of_tables tables) → ((t : KeyedScheme) → Contains tables t → Contains all t) → JoinsRows n r all
lossless_joins n ds r tables all legal lossless covers t long each =
    let joined = in_join-from n (schemes_of_tables tables) r t long
    (λ scheme scheme_in.
    let (table, table_in, same) = map-member (λ (table : KeyedScheme). attributes table.scheme) tables scheme scheme_in in
    let (u, u_in, u_same) = each table (covers table table_in) in
    subst (λ (x : Attributes). Contains (projection x r) (project_tuple x t)) same
    (projected-from n r t u (attributes table.scheme) legal.over long u_in u_same)) in
    (t, lossless.gains_none r legal t joined, λ table table_in k has. refl)

-- so do those that are not optional, on their attributes
pub filled_join : (n : ℕ) (ds : List Dependency) (r : Relation) (nullable : Attributes) (tables joined order : List KeyedScheme)
    → IsLegal n ds r → IsLossless n ds (schemes_of_tables tables) → IsReadable nullable tables
    → AreOrdered nullable tables joined order → HomesComeFirst nullable joined order → JoinsRows n r joined
filled_join n ds r nullable tables joined order legal lossless readable are first =
    joins_before n r nullable tables legal.over readable order joined are.joined_in
    (λ t h. (are.order_in t h, are.optional t h))
    (λ t h optional. absurd (true≢false (sym optional ∙ are.not_optional t h))) first
    (lossless_joins n ds r tables (with_all joined order) legal lossless (λ t h. elim (are.each t h) [
      | inl in_joined ↦ with_all_left joined order t in_joined
      | inr in_order ↦ with_all_right joined order t in_order
    ]))
