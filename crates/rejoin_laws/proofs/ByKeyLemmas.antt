-- In a readable design each optional table is looked up by its key: what it has beside that stands in no table that is
-- joined before.
use Rattle.std.proofs.Common.{◌≡◌, ℕ, ◌+◌, ◌<◌, ◌≤◌, ◌==◌, ◌||◌, Bool, true, false, not, List, [], ◌∷◌, get_or, length, zero, suc, Option, Some, refl, sym, ap, subst, ◌∙◌, inl, inr, arith}
use mathlib.Core.Path.{fun_ext}
use Rattle.std.specs.Prelude.{All, AllPairs, Contains, IsSomeAnd, if◌then◌else◌, slice_get, sum_by}
use Rattle.std.specs.List.{list_any}
use Rattle.std.proofs.lemmas.Bool.{and_from, cases_Bool, eq-eqb, eqb-true, false_from_ne_true, not_from_false}
use Rattle.std.proofs.lemmas.List.Elements.{All-head, All-tail}
use Rattle.attr_sets.specs.Attributes.{Attributes, IsSubset}
use Rattle.attr_sets.specs.Sets.{attributes}
use Rattle.dep_model.proofs.ListLemmas.{Any-from, Contains-cases, Contains-head, Contains-later}
use Rattle.dep_model.proofs.PairLemmas.{first_pairs, later_pairs}
use Rattle.optional_tables.specs.Homes.{has_home, has_outside_key, is_optional}
use Rattle.optional_tables.specs.Order.{HomesComeFirst, look_up_order, members_at, optional_positions, positions_from}
use Rattle.optional_tables.specs.Readable.{IsHomeAt, IsReadable}
use Rattle.optional_tables.specs.declared.keyed.KeyedScheme.{KeyedScheme}
use Rattle.optional_tables.proofs.OrderLemmas.{order_moved}
use Rattle.optional_tables.proofs.PositionLemmas.{members_first, position_of_member}
use Rattle.std.proofs.lemmas.List.Folds.{Any-from_list_any, list_any-from_Any}
use Rattle.std.proofs.lemmas.List.Sorted.{sum_by-IsPermutation}
use Rattle.std.proofs.lemmas.List.Sums.{sum_by-cons}
use Rattle.std.proofs.lemmas.Option.{get_or_from_slice_get, slice_get_within}
use Rattle.lookup_laws.proofs.HomeLemmas.{has_home_more}
use Rattle.optional_tables.proofs.HomeLemmas.{home_among, home_has_key}
use Rattle.lookup_laws.proofs.JoinedLemmas.{HomesAreIn, among_already}
use Rattle.rejoin_laws.specs.ByKeys.{AreLookedUpByKeys, IsLookedUpByKey}

-- the attributes of tables
abbrev pub attributes_of : List KeyedScheme → Attributes
attributes_of tables k = list_any (λ (t : KeyedScheme). attributes t.scheme k) tables

has_attribute : (tables : List KeyedScheme) (t : KeyedScheme) (k : ℕ) → Contains tables t → attributes t.scheme k ≡ true
    → attributes_of tables k ≡ true
has_attribute tables t k t_in has =
    list_any-from_Any (λ (u : KeyedScheme). attributes u.scheme k) tables
    (Any-from (λ (u : KeyedScheme). attributes u.scheme k ≡ true) tables t t_in has)

with_attribute : (tables : List KeyedScheme) (k : ℕ) → attributes_of tables k ≡ true
    → (t : KeyedScheme) × Contains tables t × (attributes t.scheme k ≡ true)
with_attribute tables k has =
    let found = Any-from_list_any (λ (u : KeyedScheme). attributes u.scheme k) tables has in
    (found.1, (found.0, found.2, found.3), found.4)

or_swapped : (a b : Bool) → (a || b) ≡ (b || a)
or_swapped true true = refl
or_swapped true false = refl
or_swapped false true = refl
or_swapped false false = refl

member_there : (K : List KeyedScheme) (k : ℕ) → k < length K → (t : KeyedScheme) × (slice_get K k ≡ Some t)
member_there [] k low = absurd (omega (arith, low))
member_there (t ∷ ts) zero low = (t, refl)
member_there (t ∷ ts) (suc k) low = member_there ts k (omega (arith, low))

module _ (nullable : Attributes) (K : List KeyedScheme) (readable : IsReadable nullable K)
    (keys : (t : KeyedScheme) → Contains K t → IsSubset (attributes t.key) (attributes t.scheme)) where
  contained : (k : ℕ) (t : KeyedScheme) → slice_get K k ≡ Some t → Contains K t
  contained k t is = (k, slice_get_within K k t is, get_or_from_slice_get K k t t is)

  home_at : (k a : ℕ) (t : KeyedScheme) → slice_get K k ≡ Some t → has_outside_key t a ≡ true → IsHomeAt K a k
  home_at k a t is outside =
      subst (λ (o : Option KeyedScheme). IsSomeAnd o (λ (u : KeyedScheme). has_outside_key u a ≡ true)) (sym is) outside

  -- one table
  by_key : (joined : List ℕ) (p : ℕ) (t : KeyedScheme) → slice_get K p ≡ Some t → is_optional nullable t ≡ true
      → (Contains joined p → ⊥) → HomesAreIn nullable (members_at K joined) → has_home nullable (members_at K joined) t ≡ true
      → IsLookedUpByKey nullable (attributes_of (members_at K joined)) t
  by_key joined p t is optional fresh homes home = record {
    key = keys t (contained p t is);
    within = λ k in_key.
        let (q, h, low, at, is_home) = home_among nullable (members_at K joined) t home in
        has_attribute (members_at K joined) h k (q, low, get_or_from_slice_get (members_at K joined) q h h at)
        (home_has_key nullable t h is_home k in_key);
    shared = λ k in_joined in_scheme. elim (cases_Bool (attributes t.key k)) [
      | inl in_key ↦ in_key
      | inr out ↦
          let outside : has_outside_key t k ≡ true =
          and_from (attributes t.scheme k) (not (attributes t.key k)) in_scheme (not_from_false (attributes t.key k) out) in
          let (other, other_in, has) = with_attribute (members_at K joined) k in_joined in
          let there = among_already nullable K (members_at K joined) t other k readable
          (λ u u_in. let (q, q_in, at) = position_of_member K joined u u_in in contained q u at) homes (contained p t is) optional
          other_in has outside in
          let (q, q_in, at) = position_of_member K joined t there in
          let may = (readable.looked_up t (contained p t is) optional).beside k outside in
          let one = readable.homes k may in
          let same : q ≡ p = one.only q (home_at q k t at outside) ∙ sym (one.only p (home_at p k t is outside)) in
          absurd (fresh (subst (Contains joined) same q_in))
    ];
    beside = (readable.looked_up t (contained p t is) optional).beside;
  }

  pub by_keys : (joined left : List ℕ) → HomesComeFirst nullable (members_at K joined) (members_at K left)
      → HomesAreIn nullable (members_at K joined) → All (λ (p : ℕ). p < length K) left
      → ((p : ℕ) → Contains left p → Contains joined p → ⊥) → AllPairs (λ (p q : ℕ). p ≡ q → ⊥) left
      → ((p : ℕ) (t : KeyedScheme) → Contains left p → slice_get K p ≡ Some t → is_optional nullable t ≡ true)
      → AreLookedUpByKeys nullable (attributes_of (members_at K joined)) (members_at K left)
  by_keys joined [] first homes low fresh apart optional = tt
  by_keys joined (p ∷ ps) first homes low fresh apart optional =
      let (t, is) = member_there K p (All-head (λ (q : ℕ). q < length K) p ps low) in
      let more = members_first K joined p t is in
      let now = subst (HomesComeFirst nullable (members_at K joined)) (members_first K ps p t is) first in
      let is_optional_here = optional p t (Contains-head p ps) is in
      let homes_more : HomesAreIn nullable (t ∷ members_at K joined) = λ u u_in is_opt. elim (Contains-cases t (members_at K joined) u u_in) [
        | inl same ↦
            has_home_more nullable t (members_at K joined) u
            (subst (λ (z : KeyedScheme). has_home nullable (members_at K joined) z ≡ true) (sym same) now.0)
        | inr later ↦ has_home_more nullable t (members_at K joined) u (homes u later is_opt)
      ] in
      let rest = by_keys (p ∷ joined) ps
      (subst (λ (ts : List KeyedScheme). HomesComeFirst nullable ts (members_at K ps)) (sym more) now.1)
      (subst (HomesAreIn nullable) (sym more) homes_more)
      (All-tail (λ (q : ℕ). q < length K) p ps low)
      (λ q q_in there. elim (Contains-cases p joined q there) [
        | inl same ↦ first_pairs (λ (a b : ℕ). a ≡ b → ⊥) p ps q apart q_in (sym same)
        | inr later ↦ fresh q (Contains-later p ps q q_in) later
      ])
      (later_pairs (λ (a b : ℕ). a ≡ b → ⊥) p ps apart)
      (λ q u q_in. optional q u (Contains-later p ps q q_in)) in
      subst (AreLookedUpByKeys nullable (attributes_of (members_at K joined))) (sym (members_first K ps p t is)) (
        by_key joined p t is is_optional_here (fresh p (Contains-head p ps)) homes now.0,
        subst (λ (x : Attributes). AreLookedUpByKeys nullable x (members_at K ps))
            (ap attributes_of more
            ∙ fun_ext (λ (k : ℕ). or_swapped (attributes t.scheme k) (attributes_of (members_at K joined) k)))
            rest,
      )

-- ---- no position stands twice in the order of look-ups
-- how often a number stands in a list
abbrev one_if : Bool → ℕ
one_if true = 1
one_if false = 0

abbrev often : ℕ → List ℕ → ℕ
often p xs = sum_by (λ (q : ℕ). one_if (q == p)) xs

often_more : (p x : ℕ) (xs : List ℕ) → often p (x ∷ xs) ≡ one_if (x == p) + often p xs
often_more p x xs = sum_by-cons (λ (q : ℕ). one_if (q == p)) x xs

same_once : (q p : ℕ) → q ≡ p → one_if (q == p) ≡ 1
same_once q p same = ap one_if (eq-eqb q p same)

once_there : (p : ℕ) (xs : List ℕ) (j d : ℕ) → j < length xs → get_or xs j d ≡ p → 1 ≤ often p xs
once_there p [] j d low is = absurd (omega (arith, low))
once_there p (x ∷ xs) zero d low is = omega (arith, often_more p x xs, same_once x p is)
once_there p (x ∷ xs) (suc j) d low is =
    omega (arith, often_more p x xs, once_there p xs j d (omega (arith, low)) is)

twice_there : (p : ℕ) (xs : List ℕ) (i j d : ℕ) → i < j → j < length xs → get_or xs i d ≡ p → get_or xs j d ≡ p → 2 ≤ often p xs
twice_there p [] i j d less low one other = absurd (omega (arith, low))
twice_there p (x ∷ xs) i zero d less low one other = absurd (omega (arith, less))
twice_there p (x ∷ xs) zero (suc j) d less low one other =
    omega (arith, often_more p x xs, same_once x p one, once_there p xs j d (omega (arith, low)) other)
twice_there p (x ∷ xs) (suc i) (suc j) d less low one other =
    omega (arith, often_more p x xs, twice_there p xs i j d (omega (arith, less)) (omega (arith, low)) one other)

-- positions ascend
never_before : {X : Type 0} (test : X → Bool) (m p : ℕ) (xs : List X) → p < m → often p (positions_from test m xs) ≡ 0
never_before test m p [] less = refl
never_before test m p (x ∷ xs) less = by (test x) (never_before test (m + 1) p xs (omega (arith, less)))
  where
    other : one_if (m == p) ≡ 0
    other = ap one_if (false_from_ne_true (m == p) (λ same. absurd (omega (arith, less, eqb-true m p same))))

    by : (b : Bool) → often p (positions_from test (m + 1) xs) ≡ 0
        → often p (if b then m ∷ positions_from test (m + 1) xs else positions_from test (m + 1) xs) ≡ 0
    by true later =
        let both : often p (m ∷ positions_from test (m + 1) xs) ≡ 0 =
        omega (arith, often_more p m (positions_from test (m + 1) xs), other, later) in
        both
    by false later = later

once_at_most : {X : Type 0} (test : X → Bool) (m p : ℕ) (xs : List X) → often p (positions_from test m xs) ≤ 1
once_at_most test m p [] = omega arith
once_at_most test m p (x ∷ xs) = by (test x) (once_at_most test (m + 1) p xs)
  where
    by : (b : Bool) → often p (positions_from test (m + 1) xs) ≤ 1
        → often p (if b then m ∷ positions_from test (m + 1) xs else positions_from test (m + 1) xs) ≤ 1
    by true later = elim (cases_Bool (m == p)) [
      | inl same ↦
          let less : p < m + 1 = omega (arith, eqb-true m p same) in
          let none : often p (positions_from test (m + 1) xs) ≡ 0 = never_before test (m + 1) p xs less in
          let here : one_if (m == p) ≡ 1 = ap one_if same in
          let both : often p (m ∷ positions_from test (m + 1) xs) ≤ 1 =
          omega (arith, often_more p m (positions_from test (m + 1) xs), none, here) in
          both
      | inr other ↦
          let not_here : one_if (m == p) ≡ 0 = ap one_if other in
          let both : often p (m ∷ positions_from test (m + 1) xs) ≤ 1 =
          omega (arith, often_more p m (positions_from test (m + 1) xs), later, not_here) in
          both
    ]
    by false later = later

pub apart_moved : (nullable : Attributes) (K : List KeyedScheme) → AllPairs (λ (p q : ℕ). p ≡ q → ⊥) (look_up_order nullable K)
apart_moved nullable K i j d less low same =
    let p : ℕ = get_or (look_up_order nullable K) j d in
    let twice = twice_there p (look_up_order nullable K) i j d less low same refl in
    let moved = sum_by-IsPermutation (λ (q : ℕ). one_if (q == p)) (optional_positions nullable K) (look_up_order nullable K)
    (order_moved nullable K) in
    let once = once_at_most (is_optional nullable) 0 p K in
    absurd (omega (arith, twice, moved, once))
