-- Which sets a step adds: one hit set and one column after the other.
use Rattle.std.proofs.Common.{inl, inr, ◌≡◌, ◌≢◌, ◌+◌, ◌^◌, ◌<◌, ◌⊎◌, ◌||◌, ◌==◌, ℕ, Bool, true, false, List, [], ◌∷◌, ◌++◌, length, get_or, take, append_assoc, length-take, refl, sym, ap, subst, ◌∙◌, arith}
use Rattle.std.specs.Prelude.{All, AllPairs, Contains}
use Rattle.std.proofs.lemmas.Bool.{cases_Bool, cases_lt, eqb-true, true≢false}
use Rattle.std.proofs.lemmas.Bool.Decides.{nat_tests}
use Rattle.std.proofs.lemmas.List.{get_or_default, get_or-take, map-append, take_more}
use Rattle.std.proofs.lemmas.List.Elements.{All-append, All-contains, All-cons, All-nil, All-push, All-weaker, Contains-append_cases, Contains-append_left, Contains-append_right, Contains-get_or}
use Rattle.std.proofs.lemmas.List.Kept.{AllPairs-cons}
use Rattle.attr_sets.specs.Attributes.{Attributes, Disjoint, IsSubset, only, union}
use Rattle.attr_sets.specs.declared.set.AttrSet.{AttrSet}
use Rattle.attr_sets.specs.declared.set.TheConstants.{MOST_ATTRIBUTES}
use Rattle.attr_sets.specs.Sets.{attributes}
use Rattle.attr_sets.proofs.AttributesLemmas.{same_at, same_from_within}
use Rattle.dep_model.specs.Plans.{schemes_of}
use Rattle.dep_model.proofs.ListLemmas.{Contains-cases, Contains-head, Contains-later}
use Rattle.dep_model.proofs.PairLemmas.{first_pairs, later_pairs}
use Rattle.candidate_sets.specs.Growing.{AddsFresh, AreDifferent, AreFresh, HasManyFresh, HasWithin, IsFreshFrom}
use Rattle.candidate_sets.specs.declared.refusal.TheConstants.{MOST_CANDIDATES}

-- ---- lists of different sets
abbrev pub Differ : List AttrSet → Type 0
Differ sets = AllPairs (λ (s t : AttrSet). attributes s ≢ attributes t) sets

pub differ_append : (one other : List AttrSet) → Differ one → Differ other
    → ((s t : AttrSet) → Contains one s → Contains other t → attributes s ≢ attributes t) → Differ (one ++ other)
differ_append [] other first second apart = second
differ_append (s ∷ one) other first second apart =
    AllPairs-cons (λ (u v : AttrSet). attributes u ≢ attributes v) s (one ++ other)
    (λ i d l. elim (Contains-append_cases one other (get_or (one ++ other) i d) (Contains-get_or (one ++ other) i d l)) [
      | inl here ↦ first_pairs (λ (u v : AttrSet). attributes u ≢ attributes v) s one (get_or (one ++ other) i d) first here
      | inr there ↦ apart s (get_or (one ++ other) i d) (Contains-head s one) there
    ])
    (differ_append one other (later_pairs (λ (u v : AttrSet). attributes u ≢ attributes v) s one first) second
    (λ u v here there. apart u v (Contains-later s one u here) there))

pub different_append : (one other : List AttrSet) → AreDifferent one → AreDifferent other
    → ((s t : AttrSet) → Contains one s → Contains other t → attributes s ≢ attributes t) → AreDifferent (one ++ other)
different_append one other first second apart = record {
  differ = differ_append one other first.differ second.differ apart;
  numbers = All-append (λ (s : AttrSet). s.0 < 2 ^ MOST_ATTRIBUTES) one other first.numbers second.numbers;
}

different_none : AreDifferent []
different_none = record {
  differ = λ i j d before l. absurd (omega (arith, l));
  numbers = All-nil (λ (s : AttrSet). s.0 < 2 ^ MOST_ATTRIBUTES);
}

different_one : (s : AttrSet) → s.0 < 2 ^ MOST_ATTRIBUTES → AreDifferent (s ∷ [])
different_one s fits = record {
  differ = λ i j d before l. absurd (omega (arith, before, l));
  numbers = All-cons (λ (t : AttrSet). t.0 < 2 ^ MOST_ATTRIBUTES) s [] fits (All-nil (λ (t : AttrSet). t.0 < 2 ^ MOST_ATTRIBUTES));
}

schemes-append : (one other : List AttrSet) → schemes_of (one ++ other) ≡ schemes_of one ++ schemes_of other
schemes-append one other = map-append attributes one other

pub schemes_left : (one other : List AttrSet) (x : Attributes) → Contains (schemes_of one) x
    → Contains (schemes_of (one ++ other)) x
schemes_left one other x listed =
    subst (λ (xs : List Attributes). Contains xs x) (sym (schemes-append one other))
    (Contains-append_left (schemes_of one) (schemes_of other) x listed)

pub schemes_right : (one other : List AttrSet) (x : Attributes) → Contains (schemes_of other) x
    → Contains (schemes_of (one ++ other)) x
schemes_right one other x listed =
    subst (λ (xs : List Attributes). Contains xs x) (sym (schemes-append one other))
    (Contains-append_right (schemes_of one) (schemes_of other) x listed)

-- ---- sets with one column more
-- two that are the same come from one set by one column
pub one_origin : (columns x z : Attributes) (b c : ℕ) → Disjoint x columns → Disjoint z columns → columns b ≡ true
    → columns c ≡ true → union x (only b) ≡ union z (only c) → (x ≡ z) × (b ≡ c)
one_origin columns x z b c x_apart z_apart b_in c_in same =
    let at : b ≡ c = column in
    (same_from_within x z (there at) (back at), at)
  where
    lacks : (y : Attributes) (k : ℕ) → Disjoint y columns → columns k ≡ true → y k ≡ false
    lacks y k apart k_in = elim (cases_Bool (y k)) [
      | inl has ↦ absurd (true≢false (sym k_in ∙ apart k has))
      | inr out ↦ out
    ]

    with_one : (y : Attributes) (k j : ℕ) → union y (only k) j ≡ true → (y j ≡ true) ⊎ (j ≡ k)
    with_one y k j member = elim (cases_Bool (y j)) [
      | inl has ↦ inl has
      | inr out ↦ inr (eqb-true j k (sym (ap (λ (e : Bool). e || (j == k)) out) ∙ member))
    ]

    itself : (e : Bool) → (e || (b == b)) ≡ true
    itself e = grind (arith, nat_tests)

    column : b ≡ c
    column = elim (with_one z c b (sym (same_at same b) ∙ itself (x b))) [
      | inl has ↦ absurd (true≢false (sym has ∙ lacks z b z_apart b_in))
      | inr at ↦ at
    ]

    left : (e f : Bool) → e ≡ true → (e || f) ≡ true
    left true f h = refl
    left false f h = absurd (true≢false (sym h))

    there : b ≡ c → IsSubset x z
    there at k m = elim (with_one z c k (sym (same_at same k) ∙ left (x k) (k == b) m)) [
      | inl has ↦ has
      | inr is ↦ absurd (true≢false (sym m ∙ ap x is ∙ lacks x c x_apart c_in))
    ]

    back : b ≡ c → IsSubset z x
    back at k m = elim (with_one x b k (same_at same k ∙ left (z k) (k == c) m)) [
      | inl has ↦ has
      | inr is ↦ absurd (true≢false (sym m ∙ ap z is ∙ lacks z b z_apart b_in))
    ]

-- ---- one column after the other
module _ (kept : List AttrSet) (columns : Attributes) (set : AttrSet) where
  pub fresh_at_first : AreFresh kept columns (set ∷ []) 0 []
  fresh_at_first = record {
    each = λ i d l. absurd (omega (arith, l));
    all = λ y from. absurd (omega (arith, from.fresh.low));
    different = different_none;
  }

  fresh_more : (k : ℕ) (y : Attributes) → IsFreshFrom kept columns (set ∷ []) k y
      → IsFreshFrom kept columns (set ∷ []) (k + 1) y
  fresh_more k y from = record {
    hit = from.hit;
    is_hit = from.is_hit;
    fresh = record {
      by = from.fresh.by;
      low = omega (arith, from.fresh.low);
      column = from.fresh.column;
      is = from.fresh.is;
      holds_none = from.fresh.holds_none;
    };
  }

  -- it is fresh by an earlier column, or by this one
  fresh_cases : (k : ℕ) (y : Attributes) → IsFreshFrom kept columns (set ∷ []) (k + 1) y
      → IsFreshFrom kept columns (set ∷ []) k y
      ⊎ ((columns k ≡ true) × (y ≡ union (attributes set) (only k)) × (HasWithin kept y → ⊥))
  fresh_cases k y from = elim (cases_lt from.fresh.by k) [
    | inl low ↦ inl (record {
      hit = from.hit;
      is_hit = from.is_hit;
      fresh = record {
        by = from.fresh.by;
        low = low;
        column = from.fresh.column;
        is = from.fresh.is;
        holds_none = from.fresh.holds_none;
      };
    })
    | inr last ↦
        let at : from.fresh.by ≡ k = omega (arith, last, from.fresh.low) in
        let is_set : from.hit ≡ set = only_one from.hit from.is_hit in
        inr (
          subst (λ (j : ℕ). columns j ≡ true) at from.fresh.column,
          from.fresh.is ∙ ap (λ (s : AttrSet). union (attributes s) (only from.fresh.by)) is_set
              ∙ ap (λ (j : ℕ). union (attributes set) (only j)) at,
          from.fresh.holds_none,
        )
  ]
    where
      only_one : (s : AttrSet) → Contains (set ∷ []) s → s ≡ set
      only_one s listed = elim (Contains-cases set [] s listed) [
        | inl same ↦ same
        | inr later ↦ absurd (omega (arith, later.1))
      ]

  -- nothing is to be added at this column
  pub fresh_same : (k : ℕ) (added : List AttrSet) → AreFresh kept columns (set ∷ []) k added
      → (columns k ≡ true → (HasWithin kept (union (attributes set) (only k)) → ⊥) → ⊥)
      → AreFresh kept columns (set ∷ []) (k + 1) added
  fresh_same k added old none = record {
    each = All-weaker (λ (s : AttrSet). IsFreshFrom kept columns (set ∷ []) k (attributes s))
        (λ (s : AttrSet). IsFreshFrom kept columns (set ∷ []) (k + 1) (attributes s))
        (λ s. fresh_more k (attributes s)) added old.each;
    all = λ y from. elim (fresh_cases k y from) [
      | inl before ↦ old.all y before
      | inr now ↦ absurd (none now.0 (subst (λ (z : Attributes). HasWithin kept z → ⊥) now.1 now.2))
    ];
    different = old.different;
  }

  -- the set with this column more
  pub fresh_added : (k : ℕ) (added : List AttrSet) (larger : AttrSet) → Disjoint (attributes set) columns
      → AreFresh kept columns (set ∷ []) k added → columns k ≡ true
      → attributes larger ≡ union (attributes set) (only k) → (HasWithin kept (attributes larger) → ⊥)
      → larger.0 < 2 ^ MOST_ATTRIBUTES → AreFresh kept columns (set ∷ []) (k + 1) (added ++ larger ∷ [])
  fresh_added k added larger apart old k_in is none fits = record {
    each = All-push (λ (s : AttrSet). IsFreshFrom kept columns (set ∷ []) (k + 1) (attributes s)) added larger
        (All-weaker (λ (s : AttrSet). IsFreshFrom kept columns (set ∷ []) k (attributes s))
        (λ (s : AttrSet). IsFreshFrom kept columns (set ∷ []) (k + 1) (attributes s))
        (λ s. fresh_more k (attributes s)) added old.each)
        (record {
          hit = set;
          is_hit = Contains-head set [];
          fresh = record { by = k; low = omega arith; column = k_in; is = is; holds_none = none };
        });
    all = λ y from. elim (fresh_cases k y from) [
      | inl before ↦ schemes_left added (larger ∷ []) y (old.all y before)
      | inr now ↦ schemes_right added (larger ∷ []) y
          (subst (λ (z : Attributes). Contains (attributes larger ∷ []) z) (is ∙ sym now.1)
          (Contains-head (attributes larger) []))
    ];
    different = different_append added (larger ∷ []) old.different (different_one larger fits) (λ s t here there. elim
        (Contains-cases larger [] t there) [
          | inr later ↦ absurd (omega (arith, later.1))
          | inl same ↦ λ equal. earlier s (All-contains
              (λ (u : AttrSet). IsFreshFrom kept columns (set ∷ []) k (attributes u)) added s old.each here)
              (equal ∙ ap attributes same ∙ is)
        ]);
  }
    where
      earlier : (s : AttrSet) → IsFreshFrom kept columns (set ∷ []) k (attributes s)
          → attributes s ≡ union (attributes set) (only k) → ⊥
      earlier s from equal =
          let is_set : from.hit ≡ set = elim (Contains-cases set [] from.hit from.is_hit) [
            | inl same ↦ same
            | inr later ↦ absurd (omega (arith, later.1))
          ] in
          let at : from.fresh.by ≡ k = (one_origin columns (attributes set) (attributes set) from.fresh.by k apart apart
          from.fresh.column k_in
          (ap (λ (u : AttrSet). union (attributes u) (only from.fresh.by)) (sym is_set) ∙ sym from.fresh.is ∙ equal)).1 in
          omega (arith, at, from.fresh.low)

-- ---- one hit set after the other
module _ (kept : List AttrSet) (columns : Attributes) (bound : ℕ) where
  pub fresh_of_none : AreFresh kept columns [] bound []
  fresh_of_none = record {
    each = λ i d l. absurd (omega (arith, l));
    all = λ y from. absurd (omega (arith, from.is_hit.1));
    different = different_none;
  }

  -- what is fresh from some of the hit sets is fresh from all
  among : (one other : List AttrSet) (y : Attributes) → ((s : AttrSet) → Contains one s → Contains other s)
      → IsFreshFrom kept columns one bound y → IsFreshFrom kept columns other bound y
  among one other y within from = record {
    hit = from.hit;
    is_hit = within from.hit from.is_hit;
    fresh = from.fresh;
  }

  pub fresh_next : (hits : List AttrSet) (hit : AttrSet) (new added : List AttrSet)
      → ((s : AttrSet) → Contains hits s → attributes s ≢ attributes hit)
      → ((s : AttrSet) → Contains hits s → Disjoint (attributes s) columns) → Disjoint (attributes hit) columns
      → AreFresh kept columns hits bound new → AreFresh kept columns (hit ∷ []) bound added
      → AreFresh kept columns (hits ++ hit ∷ []) bound (new ++ added)
  fresh_next hits hit new added others apart hit_apart old here = record {
    each = All-append (λ (s : AttrSet). IsFreshFrom kept columns (hits ++ hit ∷ []) bound (attributes s)) new added
        (All-weaker (λ (s : AttrSet). IsFreshFrom kept columns hits bound (attributes s))
        (λ (s : AttrSet). IsFreshFrom kept columns (hits ++ hit ∷ []) bound (attributes s))
        (λ s. among hits (hits ++ hit ∷ []) (attributes s) (λ u. Contains-append_left hits (hit ∷ []) u)) new old.each)
        (All-weaker (λ (s : AttrSet). IsFreshFrom kept columns (hit ∷ []) bound (attributes s))
        (λ (s : AttrSet). IsFreshFrom kept columns (hits ++ hit ∷ []) bound (attributes s))
        (λ s. among (hit ∷ []) (hits ++ hit ∷ []) (attributes s) (λ u. Contains-append_right hits (hit ∷ []) u)) added
        here.each);
    all = λ y from. elim (Contains-append_cases hits (hit ∷ []) from.hit from.is_hit) [
      | inl before ↦ schemes_left new added y
          (old.all y (record { hit = from.hit; is_hit = before; fresh = from.fresh }))
      | inr now ↦ schemes_right new added y
          (here.all y (record { hit = from.hit; is_hit = now; fresh = from.fresh }))
    ];
    different = different_append new added old.different here.different (λ s t one two. origins s t
        (All-contains (λ (u : AttrSet). IsFreshFrom kept columns hits bound (attributes u)) new s old.each one)
        (All-contains (λ (u : AttrSet). IsFreshFrom kept columns (hit ∷ []) bound (attributes u)) added t here.each two));
  }
    where
      origins : (s t : AttrSet) → IsFreshFrom kept columns hits bound (attributes s)
          → IsFreshFrom kept columns (hit ∷ []) bound (attributes t) → attributes s ≢ attributes t
      origins s t one two same =
          let is_hit : two.hit ≡ hit = elim (Contains-cases hit [] two.hit two.is_hit) [
            | inl equal ↦ equal
            | inr later ↦ absurd (omega (arith, later.1))
          ] in
          others one.hit one.is_hit
          (one_origin columns (attributes one.hit) (attributes hit) one.fresh.by two.fresh.by (apart one.hit one.is_hit)
          hit_apart one.fresh.column two.fresh.column
          (sym one.fresh.is ∙ same ∙ two.fresh.is
          ∙ ap (λ (u : AttrSet). union (attributes u) (only two.fresh.by)) is_hit)).0

-- ---- the loops
-- at a column nothing more is added
pub adds_same : (kept : List AttrSet) (columns : Attributes) (set : AttrSet) (k : ℕ) (old now new : List AttrSet)
    → AddsFresh kept columns set k old now → new ≡ now
    → (columns k ≡ true → (HasWithin kept (union (attributes set) (only k)) → ⊥) → ⊥)
    → AddsFresh kept columns set (k + 1) old new
adds_same kept columns set k old now new before same none = record {
  added = before.added;
  is = same ∙ before.is;
  fresh = fresh_same kept columns set k before.added before.fresh none;
}

-- at a column one set more is added
pub adds_one : (kept : List AttrSet) (columns : Attributes) (set : AttrSet) (k : ℕ) (old now new : List AttrSet)
    (larger : AttrSet) → Disjoint (attributes set) columns → AddsFresh kept columns set k old now
    → new ≡ now ++ larger ∷ [] → columns k ≡ true → attributes larger ≡ union (attributes set) (only k)
    → (HasWithin kept (attributes larger) → ⊥) → larger.0 < 2 ^ MOST_ATTRIBUTES
    → AddsFresh kept columns set (k + 1) old new
adds_one kept columns set k old now new larger apart before items k_in is none fits = record {
  added = before.added ++ larger ∷ [];
  is = items ∙ ap (λ (sets : List AttrSet). sets ++ larger ∷ []) before.is ∙ append_assoc old before.added (larger ∷ []);
  fresh = fresh_added kept columns set k before.added larger apart before.fresh k_in is none fits;
}

taken : (sets : List AttrSet) (i : ℕ) (s : AttrSet) → Contains (take i sets) s
    → (j : ℕ) × (j < i) × (j < length sets) × (get_or sets j s ≡ s)
taken sets i s listed =
    let low : listed.0 < i = omega (arith, listed.1, length-take i sets) in
    (listed.0, low, omega (arith, listed.1, length-take i sets), sym (get_or-take i sets listed.0 s low) ∙ listed.2)

-- one hit set more is grown
pub next_fresh : (kept : List AttrSet) (columns : Attributes) (bound : ℕ) (hits : List AttrSet) (i : ℕ) (d : AttrSet)
    (new now : List AttrSet) → i < length hits → Differ hits
    → All (λ (s : AttrSet). Disjoint (attributes s) columns) hits → AreFresh kept columns (take i hits) bound new
    → AddsFresh kept columns (get_or hits i d) bound new now → AreFresh kept columns (take (i + 1) hits) bound now
next_fresh kept columns bound hits i d new now l differ apart old here =
    let hit : AttrSet = get_or hits i d in
    subst (λ (sets : List AttrSet). AreFresh kept columns sets bound now) (sym (take_more hits i d l))
    (subst (λ (sets : List AttrSet). AreFresh kept columns (take i hits ++ hit ∷ []) bound sets) (sym here.is)
    (fresh_next kept columns bound (take i hits) hit new here.added
    (λ s listed. others s (taken hits i s listed))
    (λ s listed. each s (taken hits i s listed))
    (apart i d l) old here.fresh))
  where
    others : (s : AttrSet) → (j : ℕ) × (j < i) × (j < length hits) × (get_or hits j s ≡ s)
        → attributes s ≢ attributes (get_or hits i d)
    others s at same = differ at.0 i s at.1 l (ap attributes (at.3) ∙ same ∙ ap attributes (get_or_default hits i d s l))

    each : (s : AttrSet) → (j : ℕ) × (j < i) × (j < length hits) × (get_or hits j s ≡ s) → Disjoint (attributes s) columns
    each s at = subst (λ (u : AttrSet). Disjoint (attributes u) columns) at.3 (apart at.0 s at.2)

-- what is fresh from the first hit sets is fresh from them all
pub many_fresh : (kept : List AttrSet) (columns : Attributes) (bound : ℕ) (hits : List AttrSet) (i : ℕ)
    (new : List AttrSet) → AreFresh kept columns (take i hits) bound new → MOST_CANDIDATES < length kept + length new
    → HasManyFresh kept columns hits bound
many_fresh kept columns bound hits i new fresh more = record {
  new = new;
  each = All-weaker (λ (s : AttrSet). IsFreshFrom kept columns (take i hits) bound (attributes s))
      (λ (s : AttrSet). IsFreshFrom kept columns hits bound (attributes s))
      (λ s. among kept columns bound (take i hits) hits (attributes s) in_all) new fresh.each;
  different = fresh.different;
  more = more;
}
  where
    in_all : (s : AttrSet) → Contains (take i hits) s → Contains hits s
    in_all s listed = let at = taken hits i s listed in (at.0, at.2, at.3)
