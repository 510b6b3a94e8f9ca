-- The step on lists of sets: the kept ones with what the hit ones grow to, in order.
use Rattle.std.proofs.Common.{inl, inr, ◌≡◌, ◌≢◌, ◌+◌, ◌^◌, ◌<◌, ◌≤◌, ◌⊎◌, ◌&&◌, ◌==◌, nat_lt, ℕ, Bool, not, true, false, List, ◌∷◌, ◌++◌, length, filter, get_or, refl, sym, ap, subst, ◌∙◌, length-append, arith}
use Rattle.std.specs.Ordering.{nat_cmp}
use Rattle.std.specs.Prelude.{All, AllPairs, Contains, IsPermutation, IsSorted}
use Rattle.std.proofs.lemmas.Bool.{cases_Bool, eq-eqb, lt-ltb, ltb-true, true≢false}
use Rattle.std.proofs.lemmas.Bool.Decides.{nat_tests}
use Rattle.std.proofs.lemmas.List.{get_or-map, length-map}
use Rattle.std.proofs.lemmas.List.Elements.{All-append, All-contains, All-map, All-weaker, Contains-append_cases, Contains-append_left, Contains-append_right, Contains-get_or}
use Rattle.std.proofs.lemmas.List.Sums.{count_by-le-length, length-filter}
use Rattle.std.proofs.lemmas.List.Kept.{AllPairs-filter}
use Rattle.std.proofs.lemmas.List.Sorted.{All-permutation, Contains-permutation, IsPermutation-sym}
use Rattle.attr_sets.specs.Attributes.{Attributes, Disjoint, IsBefore, IsSubset, below, count_below, difference, only, union}
use Rattle.attr_sets.specs.declared.set.AttrSet.{AttrSet}
use Rattle.attr_sets.specs.declared.set.TheConstants.{MOST_ATTRIBUTES}
use Rattle.attr_sets.specs.Sets.{attributes, is_subset}
use Rattle.attr_sets.proofs.AttributesLemmas.{attributes_below, count_below-low, count_below-union_only, is_subset-from, is_subset-not, is_subset-true, same_at}
use Rattle.attr_sets.proofs.OrderLemmas.{IsBefore-irrefl, sorted_ascend}
use Rattle.dep_model.specs.Plans.{schemes_of}
use Rattle.dep_model.proofs.DistinctLemmas.{filter-keeps, filter-member}
use Rattle.dep_model.proofs.ListLemmas.{Contains-map, map-member}
use Rattle.dep_model.proofs.PermutationLemmas.{AllPairs-permutation}
use Rattle.candidate_sets.specs.Standing.{AreCandidates, HasMoreCandidates, IsCandidate}
use Rattle.candidate_sets.specs.Steps.{IsNotHit, IsNew, IsCandidateStep}
use Rattle.candidate_sets.proofs.StepLemmas.{kept_candidate, new_candidate, step_candidates}
use Rattle.candidate_sets.specs.Cuts.{Ascend}
use Rattle.candidate_sets.specs.Growing.{AreDifferent, AreFresh, HasManyFresh, HasWithin, IsFreshFrom, can_grow, is_apart}
use Rattle.candidate_sets.specs.declared.refusal.TheConstants.{MOST_CANDIDATES}
use Rattle.candidate_sets.proofs.GrowLemmas.{Differ, different_append}

-- ---- lists in order
-- different sets ascend once they are sorted by their numbers
pub rearranged_ascend : (sets sorted : List AttrSet) → AreDifferent sets → IsPermutation sets sorted
    → IsSorted (λ (s t : AttrSet). nat_cmp s.0 t.0) sorted → Ascend sorted
rearranged_ascend sets sorted different moved in_order =
    sorted_ascend sorted
    (AllPairs-permutation (λ (s t : AttrSet). attributes s ≢ attributes t) (λ s t other same. other (sym same))
    sets sorted moved different.differ)
    (All-permutation (λ (s : AttrSet). s.0 < 2 ^ MOST_ATTRIBUTES) sets sorted moved different.numbers)
    in_order

pub ascending_schemes : (sets : List AttrSet) → Ascend sets → AllPairs IsBefore (schemes_of sets)
ascending_schemes sets ascend i j d before l =
    let long : j < length sets = omega (arith, l, length-map sets attributes) in
    let e : AttrSet = record { 0 = 0 } in
    subst (λ (x : Attributes). IsBefore x (get_or (schemes_of sets) j d))
    (sym (get_or-map attributes sets i e d (omega (arith, before, long))))
    (subst (λ (x : Attributes). IsBefore (attributes (get_or sets i e)) x)
    (sym (get_or-map attributes sets j e d long)) (ascend i j e before long))

pub sets_ascend : (sets : List AttrSet) → AllPairs IsBefore (schemes_of sets) → Ascend sets
sets_ascend sets ascend i j d before l =
    let long : j < length (schemes_of sets) = omega (arith, l, length-map sets attributes) in
    subst (λ (x : Attributes). IsBefore x (attributes (get_or sets j d)))
    (get_or-map attributes sets i d (attributes d) (omega (arith, before, l)))
    (subst (λ (x : Attributes). IsBefore (get_or (schemes_of sets) i (attributes d)) x)
    (get_or-map attributes sets j d (attributes d) l) (ascend i j (attributes d) before long))

pub ascend_differ : (sets : List AttrSet) → Ascend sets → Differ sets
ascend_differ sets ascend i j d before l same =
    IsBefore-irrefl (attributes (get_or sets j d))
    (subst (λ (x : Attributes). IsBefore x (attributes (get_or sets j d))) same (ascend i j d before l))

-- ---- the tests of a step
apart_to : (e : Attributes) (s : AttrSet) → is_apart e s ≡ true → IsSubset (attributes s) e → ⊥
apart_to e s passes inside = true≢false (sym passes ∙ ap not (is_subset-from (attributes s) e inside))

apart_from : (e : Attributes) (s : AttrSet) → (IsSubset (attributes s) e → ⊥) → is_apart e s ≡ true
apart_from e s outside = ap not (is_subset-not (attributes s) e (attributes_below s) outside)

grow_to : (e : Attributes) (most : ℕ) (s : AttrSet) → can_grow e most s ≡ true
    → IsSubset (attributes s) e × (count_below (attributes s) MOST_ATTRIBUTES < most)
grow_to e most s passes =
    by (is_subset (attributes s) e) (nat_lt (count_below (attributes s) MOST_ATTRIBUTES) most) refl refl passes
  where
    by : (b c : Bool) → is_subset (attributes s) e ≡ b → nat_lt (count_below (attributes s) MOST_ATTRIBUTES) most ≡ c
        → (b && c) ≡ true → IsSubset (attributes s) e × (count_below (attributes s) MOST_ATTRIBUTES < most)
    by true true inside few h = (
      is_subset-true (attributes s) e (attributes_below s) inside,
      ltb-true (count_below (attributes s) MOST_ATTRIBUTES) most few,
    )
    by true false inside few h = absurd (true≢false (sym h))
    by false c inside few h = absurd (true≢false (sym h))

grow_from : (e : Attributes) (most : ℕ) (s : AttrSet) → IsSubset (attributes s) e
    → count_below (attributes s) MOST_ATTRIBUTES < most → can_grow e most s ≡ true
grow_from e most s inside few =
    both (is_subset (attributes s) e) _ (is_subset-from (attributes s) e inside)
    (lt-ltb (count_below (attributes s) MOST_ATTRIBUTES) most few)
  where
    both : (b c : Bool) → b ≡ true → c ≡ true → (b && c) ≡ true
    both true c h g = g
    both false c h g = h

-- ---- the columns by which hit sets grow
abbrev IsColumns : ℕ → ℕ → Attributes → Attributes → Type 0
IsColumns n a e columns = columns ≡ difference (difference (below n) e) (only a)

column_to : (n a : ℕ) (e columns : Attributes) (b : ℕ) → IsColumns n a e columns → columns b ≡ true
    → (b < n) × (e b ≡ false) × (b ≢ a)
column_to n a e columns b is member =
    by (nat_lt b n) (e b) (b == a) refl refl refl (sym (same_at is b) ∙ member)
  where
    by : (low has at : Bool) → nat_lt b n ≡ low → e b ≡ has → (b == a) ≡ at → ((low && not has) && not at) ≡ true
        → (b < n) × (e b ≡ false) × (b ≢ a)
    by true false false low out other h = (ltb-true b n low, out, λ same. true≢false (sym (eq-eqb b a same) ∙ other))
    by true false true low out other h = absurd (true≢false (sym h))
    by true true at low out other h = absurd (true≢false (sym h))
    by false has at low out other h = absurd (true≢false (sym h))

column_from : (n a : ℕ) (e columns : Attributes) (b : ℕ) → IsColumns n a e columns → b < n → e b ≡ false → b ≢ a
    → columns b ≡ true
column_from n a e columns b is low out other = same_at is b ∙ grind (arith, nat_tests, low, out, other)

-- ---- the step
module _ (n most a : ℕ) (e : Attributes) (candidates : List AttrSet) (es : List Attributes)
    (are : AreCandidates n most es a (schemes_of candidates)) (n_in : n ≤ MOST_ATTRIBUTES)
    (kept hits : List AttrSet) (kept_is : kept ≡ filter (is_apart e) candidates)
    (hits_is : hits ≡ filter (can_grow e most) candidates) (columns : Attributes) (columns_is : IsColumns n a e columns) where
  abbrev xs : List Attributes
  xs = schemes_of candidates

  all_ascend : Ascend candidates
  all_ascend = sets_ascend candidates are.ascending

  pub kept_ascend : Ascend kept
  kept_ascend = subst Ascend (sym kept_is)
      (AllPairs-filter (λ (s t : AttrSet). IsBefore (attributes s) (attributes t)) (is_apart e) candidates all_ascend)

  pub hits_differ : Differ hits
  hits_differ = ascend_differ hits (subst Ascend (sym hits_is)
      (AllPairs-filter (λ (s t : AttrSet). IsBefore (attributes s) (attributes t)) (can_grow e most) candidates all_ascend))

  pub kept_short : length kept ≤ length candidates
  kept_short =
      omega (
        arith,
        ap (λ (sets : List AttrSet). length sets) kept_is,
        length-filter (is_apart e) candidates,
        count_by-le-length (is_apart e) candidates,
      )

  is_listed : (s : AttrSet) → Contains candidates s → IsCandidate n most es a (attributes s)
  is_listed s listed =
      All-contains (IsCandidate n most es a) xs (attributes s) are.each (Contains-map attributes candidates s listed)

  few_below : (s : AttrSet) → Contains candidates s
      → count_below (attributes s) MOST_ATTRIBUTES ≡ count_below (attributes s) n
  few_below s listed = count_below-low MOST_ATTRIBUTES n (attributes s) (is_listed s listed).within n_in

  hit_to : (s : AttrSet) → Contains hits s → Contains candidates s × (can_grow e most s ≡ true)
  hit_to s listed = filter-member (can_grow e most) candidates s (subst (λ (sets : List AttrSet). Contains sets s) hits_is listed)

  hit_from : (s : AttrSet) → Contains candidates s → can_grow e most s ≡ true → Contains hits s
  hit_from s listed passes = subst (λ (sets : List AttrSet). Contains sets s) (sym hits_is)
      (filter-keeps (can_grow e most) candidates s listed passes)

  pub hits_apart : All (λ (s : AttrSet). Disjoint (attributes s) columns) hits
  hits_apart i d l k member = elim (cases_Bool (columns k)) [
    | inr out ↦ out
    | inl has ↦
        let s : AttrSet = get_or hits i d in
        let inside = (grow_to e most s (hit_to s (Contains-get_or hits i d l)).1).0 in
        absurd (true≢false (sym (inside k member) ∙ (column_to n a e columns k columns_is has).1))
  ]

  kept_to : (s : AttrSet) → Contains kept s → IsNotHit xs e (attributes s)
  kept_to s listed =
      let both = filter-member (is_apart e) candidates s (subst (λ (sets : List AttrSet). Contains sets s) kept_is listed) in
      (Contains-map attributes candidates s both.0, apart_to e s both.1)

  kept_from : (x : Attributes) → IsNotHit xs e x → (s : AttrSet) × Contains kept s × (attributes s ≡ x)
  kept_from x is =
      let found = map-member attributes candidates x is.0 in (
        found.0,
        subst (λ (sets : List AttrSet). Contains sets found.0) (sym kept_is)
            (filter-keeps (is_apart e) candidates found.0 found.1
            (apart_from e found.0 (λ inside. is.1 (subst (λ (v : Attributes). IsSubset v e) found.2 inside)))),
        found.2,
      )

  holds_kept : (x y : Attributes) → IsNotHit xs e x → IsSubset x y → HasWithin kept y
  holds_kept x y is inside =
      let found = kept_from x is in
      (found.1.0, found.0, found.1.1, found.1.2, subst (λ (v : Attributes). IsSubset v y) (sym found.2) inside)

  -- a set that grew has one member more
  grown_count : (s : AttrSet) (b : ℕ) (y : Attributes) → Contains candidates s → IsSubset (attributes s) e → b < n
      → e b ≡ false → y ≡ union (attributes s) (only b) → count_below y n ≡ count_below (attributes s) MOST_ATTRIBUTES + 1
  grown_count s b y listed inside b_in out is =
      let lacks : attributes s b ≡ false = elim (cases_Bool (attributes s b)) [
        | inl has ↦ absurd (true≢false (sym (inside b has) ∙ out))
        | inr away ↦ away
      ] in
      omega (
        arith,
        ap (λ (x : Attributes). count_below x n) is,
        count_below-union_only n (attributes s) b b_in lacks,
        few_below s listed,
      )

  pub new_to : (y : Attributes) → IsFreshFrom kept columns hits n y → IsNew n most a e xs y
  new_to y from =
      let s : AttrSet = from.hit in
      let hit = hit_to s from.is_hit in
      let grows = grow_to e most s hit.1 in
      let column = column_to n a e columns from.fresh.by columns_is from.fresh.column in
      record {
        hit = attributes s;
        is_hit = (Contains-map attributes candidates s hit.0, grows.0);
        by = from.fresh.by;
        grown = record { column = column.0; other = column.2; outside = column.1; is = from.fresh.is };
        within_limit = omega (arith, grown_count s from.fresh.by y hit.0 grows.0 column.0 column.1 from.fresh.is, grows.1);
        holds_none = λ x is inside. from.fresh.holds_none (holds_kept x y is inside);
      }

  pub new_from : (y : Attributes) → IsNew n most a e xs y → IsFreshFrom kept columns hits n y
  new_from y new =
      let found = map-member attributes candidates new.hit new.is_hit.0 in
      let s : AttrSet = found.0 in
      let inside : IsSubset (attributes s) e = subst (λ (v : Attributes). IsSubset v e) (sym found.2) new.is_hit.1 in
      let is : y ≡ union (attributes s) (only new.by) =
      new.grown.is ∙ ap (λ (v : Attributes). union v (only new.by)) (sym found.2) in
      record {
        hit = s;
        is_hit = hit_from s found.1 (grow_from e most s inside
            (omega (arith, grown_count s new.by y found.1 inside new.grown.column new.grown.outside is, new.within_limit)));
        fresh = record {
          by = new.by;
          low = new.grown.column;
          column = column_from n a e columns new.by columns_is new.grown.column new.grown.outside new.grown.other;
          is = is;
          holds_none = λ held. new.holds_none (attributes held.1) (kept_to held.1 (held.0, held.2, held.3)) held.4;
        };
      }

  kept_apart_new : (new : List AttrSet) → All (λ (s : AttrSet). IsFreshFrom kept columns hits n (attributes s)) new
      → (s t : AttrSet) → Contains kept s → Contains new t → attributes s ≢ attributes t
  kept_apart_new new each s t here there same =
      (All-contains (λ (u : AttrSet). IsFreshFrom kept columns hits n (attributes u)) new t each there).fresh.holds_none
      (here.0, s, here.1, here.2, (λ k m. sym (same_at same k) ∙ m))

  pub both_differ : (new : List AttrSet) → All (λ (s : AttrSet). s.0 < 2 ^ MOST_ATTRIBUTES) kept
      → All (λ (s : AttrSet). IsFreshFrom kept columns hits n (attributes s)) new → AreDifferent new
      → AreDifferent (kept ++ new)
  both_differ new numbers each different =
      different_append kept new (record { differ = ascend_differ kept kept_ascend; numbers = numbers }) different
      (kept_apart_new new each)

  module _ (new sorted : List AttrSet) (numbers : All (λ (s : AttrSet). s.0 < 2 ^ MOST_ATTRIBUTES) kept)
      (fresh : AreFresh kept columns hits n new) (moved : IsPermutation (kept ++ new) sorted)
      (in_order : IsSorted (λ (s t : AttrSet). nat_cmp s.0 t.0) sorted) where
    in_sorted : (s : AttrSet) → Contains (kept ++ new) s → Contains (schemes_of sorted) (attributes s)
    in_sorted s listed =
        Contains-map attributes sorted s (Contains-permutation (kept ++ new) sorted s moved listed)

    each_stepped : (s : AttrSet) → Contains sorted s
        → IsNotHit xs e (attributes s) ⊎ IsNew n most a e xs (attributes s)
    each_stepped s listed = elim (Contains-append_cases kept new s
        (Contains-permutation sorted (kept ++ new) s (IsPermutation-sym (kept ++ new) sorted moved) listed)) [
          | inl here ↦ inl (kept_to s here)
          | inr there ↦ inr (new_to (attributes s)
              (All-contains (λ (u : AttrSet). IsFreshFrom kept columns hits n (attributes u)) new s fresh.each there))
        ]

    new_sorted : (y : Attributes) → IsNew n most a e xs y → Contains (schemes_of sorted) y
    new_sorted y is =
        let found = map-member attributes new y (fresh.all y (new_from y is)) in
        subst (λ (v : Attributes). Contains (schemes_of sorted) v) found.2
        (in_sorted found.0 (Contains-append_right kept new found.0 found.1))

    kept_sorted : (y : Attributes) → IsNotHit xs e y → Contains (schemes_of sorted) y
    kept_sorted y is =
        let found = kept_from y is in
        subst (λ (v : Attributes). Contains (schemes_of sorted) v) found.2
        (in_sorted found.0 (Contains-append_left kept new found.0 found.1))

    is_step : IsCandidateStep n most a e xs (schemes_of sorted)
    is_step = record {
      each = All-map (λ (y : Attributes). IsNotHit xs e y ⊎ IsNew n most a e xs y) attributes sorted
          (λ i d l. each_stepped (get_or sorted i d) (Contains-get_or sorted i d l));
      kept = kept_sorted;
      new = new_sorted;
      ascending = ascending_schemes sorted
          (rearranged_ascend (kept ++ new) sorted (both_differ new numbers fresh.each fresh.different) moved in_order);
    }

    pub next_are : e a ≡ false → AreCandidates n most (e ∷ es) a (schemes_of sorted)
    next_are lacks = step_candidates n most es a e xs are lacks (schemes_of sorted) is_step

  -- too many of them
  pub many_are : e a ≡ false → All (λ (s : AttrSet). s.0 < 2 ^ MOST_ATTRIBUTES) kept → HasManyFresh kept columns hits n
      → HasMoreCandidates n most (e ∷ es) a MOST_CANDIDATES
  many_are lacks numbers many = record {
    sets = schemes_of (kept ++ many.new);
    each = All-map (IsCandidate n most (e ∷ es) a) attributes (kept ++ many.new)
        (All-append (λ (s : AttrSet). IsCandidate n most (e ∷ es) a (attributes s)) kept many.new
        (λ i d l. kept_candidate n most es a e xs are lacks (attributes (get_or kept i d))
        (kept_to (get_or kept i d) (Contains-get_or kept i d l)))
        (All-weaker (λ (s : AttrSet). IsFreshFrom kept columns hits n (attributes s))
        (λ (s : AttrSet). IsCandidate n most (e ∷ es) a (attributes s))
        (λ s from. new_candidate n most es a e xs are lacks (attributes s) (new_to (attributes s) from)) many.new many.each));
    differ = schemes_differ (kept ++ many.new) (both_differ many.new numbers many.each many.different).differ;
    more = omega (arith, many.more, length-append kept many.new, length-map (kept ++ many.new) attributes);
  }
    where
      schemes_differ : (sets : List AttrSet) → Differ sets → AllPairs (λ (x y : Attributes). x ≢ y) (schemes_of sets)
      schemes_differ sets differ i j d before l =
          let long : j < length sets = omega (arith, l, length-map sets attributes) in
          let none : AttrSet = record { 0 = 0 } in
          subst (λ (x : Attributes). x ≢ get_or (schemes_of sets) j d)
          (sym (get_or-map attributes sets i none d (omega (arith, before, long))))
          (subst (λ (x : Attributes). attributes (get_or sets i none) ≢ x)
          (sym (get_or-map attributes sets j none d long)) (differ i j none before long))

-- ---- evidence that changes nothing
-- no listed set lies within it
pub untouched : (n most a : ℕ) (e : Attributes) (candidates : List AttrSet) (es : List Attributes)
    → AreCandidates n most es a (schemes_of candidates) → e a ≡ false → (HasWithin candidates e → ⊥)
    → AreCandidates n most (e ∷ es) a (schemes_of candidates)
untouched n most a e candidates es are lacks none =
    step_candidates n most es a e (schemes_of candidates) are lacks (schemes_of candidates) (record {
      each = λ i d l. inl (
        Contains-get_or (schemes_of candidates) i d l,
        apart (get_or (schemes_of candidates) i d) (Contains-get_or (schemes_of candidates) i d l),
      );
      kept = λ y is. is.0;
      new = λ y new. absurd (apart new.hit new.is_hit.0 new.is_hit.1);
      ascending = are.ascending;
    })
  where
    apart : (x : Attributes) → Contains (schemes_of candidates) x → IsSubset x e → ⊥
    apart x listed inside =
        let found = map-member attributes candidates x listed in
        none (found.1.0, found.0, found.1.1, found.1.2, subst (λ (v : Attributes). IsSubset v e) (sym found.2) inside)
