-- Which sets of columns of a file are targets: minimal keys that are found by their sizes.
use Rattle.std.specs.Prelude.{Any, Contains}
use Rattle.std.proofs.Common.{inl, inr, ◌≡◌, ◌+◌, ◌<◌, ◌≤◌, ◌⊎◌, ℕ, zero, suc, true, false, true≢false, List, [], ◌∷◌, ◌++◌, length, sym, ap, subst, refl, ◌∙◌, ⊎_elim, arith, ltb-true}
use Rattle.std.proofs.lemmas.Bool.{cases_Bool, cases_lt}
use Rattle.std.proofs.lemmas.List.Elements.{All-contains, All-push, Contains-push, Contains-push_cases}
use Rattle.attr_sets.specs.Attributes.{Attributes, IsSubset, below, count_below, difference, only}
use Rattle.attr_sets.specs.Sets.{attributes}
use Rattle.attr_sets.specs.declared.set.AttrSet.{AttrSet}
use Rattle.attr_sets.specs.declared.set.TheConstants.{MOST_ATTRIBUTES}
use Rattle.attr_sets.proofs.AttributesLemmas.{count_below-difference_only, count_below-low, count_below-pos, same_from_within}
use Rattle.dep_model.specs.Projections.{members_below}
use Rattle.dep_model.specs.Tuples.{Tuple, Relation}
use Rattle.dep_model.proofs.ListLemmas.{Any-from, Any-left, Any-weaker}
use Rattle.dep_model.proofs.SchemeLemmas.{length-members_below}
use Rattle.fd_search.specs.Keys.{Identifies, IsRowKey}
use Rattle.file_references.specs.Columns.{misses_none}
use Rattle.file_references.specs.Finds.{Adds, RefersToOne}
use Rattle.file_references.specs.Keys.{AreAllOfSize, AreLooked, IsLooked, IsWholeKey, KnowsKeys}
use Rattle.file_references.specs.References.{HasTwoRows, IsTarget, Reference}
use Rattle.file_references.specs.declared.reference.TheConstants.{MOST_KEY_COLUMNS}
use Rattle.file_references.proofs.AddLemmas.{adds_then}
use Rattle.file_references.proofs.AgreeLemmas.{agree_from_values, values_from_agree, whole_from, whole_to}
use Rattle.file_references.proofs.SetLemmas.{has_member, left_in, member_of, without_within}
use Rattle.headed_rows.specs.Headings.{HeadedRows}

-- ---- keys as sets and as lists
pub identifies_set : (n : ℕ) (r : Relation) (x : Attributes) → IsWholeKey r (members_below n x) → Identifies r x
identifies_set n r x key = λ t u t_in u_in agree. key.identifies t u t_in u_in (values_from_agree n x t u agree)

pub key_of_set : (n : ℕ) (r : Relation) (x : Attributes) → IsSubset x (below n) → Identifies r x
    → ((t : Tuple) → Contains r t → misses_none (members_below n x) t ≡ true) → IsWholeKey r (members_below n x)
key_of_set n r x within identifies whole = record {
  whole = whole;
  identifies = λ t u t_in u_in same. identifies t u t_in u_in (agree_from_values n x t u within same);
}

-- a larger set identifies too
pub identifies_more : (r : Relation) (v x : Attributes) → IsSubset v x → Identifies r v → Identifies r x
identifies_more r v x within identifies = λ t u t_in u_in agree. identifies t u t_in u_in (λ k has. agree k (within k has))

-- and a smaller one misses no more
whole_less : (n : ℕ) (v x : Attributes) (t : Tuple) → IsSubset v x → misses_none (members_below n x) t ≡ true
    → misses_none (members_below n v) t ≡ true
whole_less n v x t within whole = whole_from (members_below n v) t (λ k has.
    let of = member_of n v k has in
    whole_to (members_below n x) t whole k (has_member n x k of.0 (within k of.1)))

-- where two rows differ, no column at all identifies none
pub none_identifies : (r : Relation) (x : Attributes) → HasTwoRows r → ((k : ℕ) → x k ≡ true → ⊥) → Identifies r x → ⊥
none_identifies r x (t, u, t_in, u_in, differ) empty identifies =
    differ (identifies t u t_in u_in (λ k has. absurd (empty k has)))

-- so a target has a column
pub target_some : (n : ℕ) (r : Relation) (key : List ℕ) → (is : IsTarget n r key) → 0 < count_below is.set n
target_some n r key is = elim (some_or_none (count_below is.set n)) [
  | inl some ↦ some
  | inr none ↦ absurd (none_identifies r is.set is.differ (λ k has.
      let low : k < n = ltb-true k n (is.minimal.within k has) in
      omega (arith, none, count_below-pos n is.set k low has)) is.minimal.identifies)
]
  where
    some_or_none : (m : ℕ) → (0 < m) ⊎ (m ≡ 0)
    some_or_none zero = inr refl
    some_or_none (suc m) = inl (omega arith)

-- ---- a set that is a key, and has no known key within it
module _ (n : ℕ) (r : Relation) (shared : Attributes) (size : ℕ) (sets keys : List AttrSet) (low : n ≤ MOST_ATTRIBUTES)
    (differ : HasTwoRows r) (known : KnowsKeys n r shared size sets keys) (s : AttrSet) where
  abbrev x : Attributes
  x = attributes s

  -- what is left of it without one column is no key
  no_less : IsLooked n shared (size + 1) x → count_below x MOST_ATTRIBUTES ≡ size + 1
      → (Any (λ (k : AttrSet). IsSubset (attributes k) x) keys → ⊥) → IsWholeKey r (members_below n x)
      → (v : Attributes) → IsSubset v x → Identifies r v → (a : ℕ) → x a ≡ true → v a ≡ false → ⊥
  no_less looked count free key v within identifies a has lacks =
      let y : Attributes = difference x (only a) in
      let inside : IsSubset v y = λ k member. left_in x a k (within k member)
      (λ (same : k ≡ a). true≢false (sym member ∙ ap v same ∙ lacks)) in
      let a_low : a < n = ltb-true a n (looked.within a has) in
      let less = count_below-difference_only MOST_ATTRIBUTES x a (omega (arith, a_low, low)) has in
      let y_count : count_below y MOST_ATTRIBUTES ≡ size = omega (arith, less, count) in
      let y_within : IsSubset y (below n) = λ k h. looked.within k (without_within x a k h) in
      let y_identifies : Identifies r y = identifies_more r v y inside identifies in
      elim (some_or_none size) [
        | inl some ↦
            let alone : (count_below y MOST_ATTRIBUTES ≡ 1) ⊎ IsSubset y shared = ⊎_elim
            (λ (one : count_below x MOST_ATTRIBUTES ≡ 1). absurd (omega (arith, one, count, some)))
            (λ all. inr (λ k h. all k (without_within x a k h))) looked.alone in
            let y_looked : IsLooked n shared size y = record {
              within = y_within;
              some = omega (arith, y_count, some);
              few = omega (arith, y_count);
              alone = alone;
            } in
            let y_key : IsWholeKey r (members_below n y) = key_of_set n r y y_within y_identifies
            (λ t t_in. whole_less n y x t (without_within x a) (key.whole t t_in)) in
            free (Any-weaker (λ (k : AttrSet). IsSubset (attributes k) y) (λ (k : AttrSet). IsSubset (attributes k) x) keys
            (λ k inner j h. without_within x a j (inner j h)) (known.all y (inl y_looked) y_key))
        | inr none ↦ none_identifies r y differ (λ k h.
            let k_low : k < n = ltb-true k n (y_within k h) in
            omega (arith, none, y_count, count_below-pos MOST_ATTRIBUTES y k (omega (arith, k_low, low)) h)) y_identifies
      ]
    where
      some_or_none : (m : ℕ) → (0 < m) ⊎ (m ≡ 0)
      some_or_none zero = inr refl
      some_or_none (suc m) = inl (omega arith)

  pub new_key : IsLooked n shared (size + 1) x → count_below x MOST_ATTRIBUTES ≡ size + 1
      → (Any (λ (k : AttrSet). IsSubset (attributes k) x) keys → ⊥) → IsWholeKey r (members_below n x) → IsRowKey n r x
  new_key looked count free key = record {
    within = looked.within;
    identifies = identifies_set n r x key;
    minimal = λ v within identifies a has. elim (cases_Bool (v a)) [
      | inl member ↦ member
      | inr lacks ↦ absurd (no_less looked count free key v within identifies a has lacks)
    ];
  }

  pub new_target : size < MOST_KEY_COLUMNS → IsLooked n shared (size + 1) x → count_below x MOST_ATTRIBUTES ≡ size + 1
      → (Any (λ (k : AttrSet). IsSubset (attributes k) x) keys → ⊥) → IsWholeKey r (members_below n x)
      → IsTarget n r (members_below n x)
  new_target few looked count free key = record {
    set = x;
    columns = refl;
    minimal = new_key looked count free key;
    few = omega (arith, few, length-members_below n x, count_below-low MOST_ATTRIBUTES n x looked.within low, count);
    whole = key.whole;
    differ = differ;
  }

-- ---- what is known then
module _ (n : ℕ) (r : Relation) (shared : Attributes) (size : ℕ) (sets keys : List AttrSet)
    (known : KnowsKeys n r shared size sets keys) (s : AttrSet) where
  pub known_key : IsRowKey n r (attributes s) → KnowsKeys n r shared size (sets ++ s ∷ []) (keys ++ s ∷ [])
  known_key is = record {
    each = All-push (λ (k : AttrSet). IsRowKey n r (attributes k)) keys s known.each is;
    all = λ y seen key. ⊎_elim
        (λ looked. Any-left (λ (k : AttrSet). IsSubset (attributes k) y) keys s (known.all y (inl looked) key))
        (λ (i, t, t_low, t_at, same). ⊎_elim
        (λ earlier. Any-left (λ (k : AttrSet). IsSubset (attributes k) y) keys s
        (known.all y (inr (Any-from (λ (k : AttrSet). attributes k ≡ y) sets t earlier same)) key))
        (λ (last : s ≡ t). Any-from (λ (k : AttrSet). IsSubset (attributes k) y) (keys ++ s ∷ []) s (Contains-push keys s)
        (λ j h. subst (λ (z : Attributes). z j ≡ true) (ap attributes last ∙ same) h))
        (Contains-push_cases sets s t (i, t_low, t_at)))
        seen;
  }

  pub known_other : (IsWholeKey r (members_below n (attributes s)) → Any (λ (k : AttrSet). IsSubset (attributes k) (attributes s)) keys)
      → KnowsKeys n r shared size (sets ++ s ∷ []) keys
  known_other has = record {
    each = known.each;
    all = λ y seen key. ⊎_elim
        (λ looked. known.all y (inl looked) key)
        (λ (i, t, t_low, t_at, same). ⊎_elim
        (λ earlier. known.all y (inr (Any-from (λ (k : AttrSet). attributes k ≡ y) sets t earlier same)) key)
        (λ (last : s ≡ t).
        let is : attributes s ≡ y = ap attributes last ∙ same in
        subst (λ (z : Attributes). Any (λ (k : AttrSet). IsSubset (attributes k) z) keys) is
        (has (subst (λ (z : Attributes). IsWholeKey r (members_below n z)) (sym is) key)))
        (Contains-push_cases sets s t (i, t_low, t_at)))
        seen;
  }

-- ---- from size to size
pub looked_one : (n : ℕ) (shared : Attributes) (sets : List AttrSet) → AreAllOfSize (below n) 1 sets → AreLooked n shared 1 sets
looked_one n shared sets all = record {
  each = λ i d l. let of = all.each i d l in (
    record { within = of.0; some = omega (arith, of.1); few = omega (arith, of.1); alone = inl of.1 },
    of.1,
  );
  all = λ x looked count. all.all x looked.within count;
}

pub looked_more : (n : ℕ) (shared : Attributes) (size : ℕ) (sets : List AttrSet) → 1 < size → IsSubset shared (below n)
    → AreAllOfSize shared size sets → AreLooked n shared size sets
looked_more n shared size sets several within all = record {
  each = λ i d l. let of = all.each i d l in (
    record {
      within = λ k h. within k (of.0 k h);
      some = omega (arith, of.1, several);
      few = omega (arith, of.1);
      alone = inr of.0;
    },
    of.1,
  );
  all = λ x looked count. all.all x
      (⊎_elim (λ (one : count_below x MOST_ATTRIBUTES ≡ 1). absurd (omega (arith, one, count, several))) (λ is. is) looked.alone) count;
}

pub known_at_first : (n : ℕ) (r : Relation) (shared : Attributes) (keys : List AttrSet) → keys ≡ [] → KnowsKeys n r shared 0 [] keys
known_at_first n r shared keys none = record {
  each = λ i d l. absurd (omega (arith, l, ap length none));
  all = λ x seen key. ⊎_elim (λ looked. let some = looked.some in let few = looked.few in absurd (omega (arith, some, few)))
      (λ (i, t, l, at, same). absurd (omega (arith, l))) seen;
}

pub known_next : (n : ℕ) (r : Relation) (shared : Attributes) (size : ℕ) (sets keys : List AttrSet) → AreLooked n shared (size + 1) sets
    → KnowsKeys n r shared size sets keys → KnowsKeys n r shared (size + 1) [] keys
known_next n r shared size sets keys all known = record {
  each = known.each;
  all = λ x seen key. ⊎_elim (λ looked. next x looked key (le_or_next (count_below x MOST_ATTRIBUTES) size looked.few))
      (λ (i, t, l, at, same). absurd (omega (arith, l))) seen;
}
  where
    le_or_next : (m k : ℕ) → m ≤ k + 1 → (m ≤ k) ⊎ (m ≡ k + 1)
    le_or_next m k le = elim (cases_lt k m) [ inl less ↦ inr (omega (arith, le, less)) | inr other ↦ inl other ]

    next : (x : Attributes) → IsLooked n shared (size + 1) x → IsWholeKey r (members_below n x)
        → (count_below x MOST_ATTRIBUTES ≤ size) ⊎ (count_below x MOST_ATTRIBUTES ≡ size + 1)
        → Any (λ (k : AttrSet). IsSubset (attributes k) x) keys
    next x looked key (inl few) =
        known.all x (inl (record { within = looked.within; some = looked.some; few = few; alone = looked.alone })) key
    next x looked key (inr last) = known.all x (inr (all.all x looked last)) key

-- ---- references to keys
-- a target is one of the known keys
pub target_known : (n : ℕ) (r : Relation) (shared : Attributes) (size : ℕ) (keys : List AttrSet) (key : List ℕ)
    → n ≤ MOST_ATTRIBUTES → MOST_KEY_COLUMNS ≤ size → KnowsKeys n r shared size [] keys → IsTarget n r key
    → ((length key ≡ 1) ⊎ ((k : ℕ) → Contains key k → shared k ≡ true))
    → (s : AttrSet) × Contains keys s × (key ≡ members_below n (attributes s))
target_known n r shared size keys key low enough known is alone =
    let x : Attributes = is.set in
    let count : count_below x MOST_ATTRIBUTES ≡ length key =
    count_below-low MOST_ATTRIBUTES n x is.minimal.within low ∙ sym (length-members_below n x) ∙ ap length (sym is.columns) in
    let some : 0 < length key =
    omega (arith, target_some n r key is, length-members_below n x, ap length is.columns) in
    let looked : IsLooked n shared size x = record {
      within = is.minimal.within;
      some = omega (arith, count, some);
      few = omega (arith, count, is.few, enough);
      alone = ⊎_elim (λ (one : length key ≡ 1). inl (count ∙ one))
          (λ all. inr (λ k h. all k (subst (λ (ks : List ℕ). Contains ks k) (sym is.columns)
          (has_member n x k (ltb-true k n (is.minimal.within k h)) h)))) alone;
    } in
    let whole_key : IsWholeKey r (members_below n x) = key_of_set n r x is.minimal.within is.minimal.identifies
    (λ t t_in. subst (λ (ks : List ℕ). misses_none ks t ≡ true) is.columns (is.whole t t_in)) in
    let (i, s, s_low, s_at, inner) = known.all x (inl looked) whole_key in
    let s_key : IsRowKey n r (attributes s) = All-contains (λ (k : AttrSet). IsRowKey n r (attributes k)) keys s known.each (i, s_low, s_at) in
    let same : attributes s ≡ x = same_from_within (attributes s) x inner (is.minimal.minimal (attributes s) inner s_key.identifies) in
    (s, (i, s_low, s_at), is.columns ∙ ap (members_below n) (sym same))

-- the references to one key more
pub adds_key : (files : List HeadedRows) (n target : ℕ) (keys : List AttrSet) (s : AttrSet) (first old new : List Reference)
    → Adds files (RefersToOne n target keys) first old
    → Adds files (λ (ref : Reference). (ref.target ≡ target) × (ref.key ≡ members_below n (attributes s))) old new
    → Adds files (RefersToOne n target (keys ++ s ∷ [])) first new
adds_key files n target keys s first old new before more =
    adds_then files (RefersToOne n target keys) (λ (ref : Reference). (ref.target ≡ target) × (ref.key ≡ members_below n (attributes s)))
    (RefersToOne n target (keys ++ s ∷ [])) first old new
    (λ ref is (to, (t, t_in, key)). ⊎_elim (λ earlier. inl (to, (t, earlier, key)))
    (λ (last : s ≡ t). inr (to, key ∙ ap (λ (k : AttrSet). members_below n (attributes k)) (sym last)))
    (Contains-push_cases keys s t t_in))
    before more
