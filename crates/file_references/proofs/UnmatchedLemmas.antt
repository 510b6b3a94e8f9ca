-- Rows without a match.
use Rattle.std.specs.Prelude.{◌↔◌, Contains}
use Rattle.std.specs.List.{position_or_len}
use Rattle.std.specs.declared.alloc.Global.{Global}
use Rattle.std.proofs.Common.{inl, inr, ◌≡◌, ◌+◌, ◌<◌, ◌&&◌, ℕ, Bool, true, false, true≢false, not, List, [], ◌∷◌, ◌++◌, length, map, take, get_or, Bor, Vec, sym, ap, subst, refl, ◌∙◌, arith}
use Rattle.std.proofs.lemmas.Bool.{cases_Bool}
use Rattle.std.proofs.lemmas.List.{get_or-map, length-map}
use Rattle.std.proofs.lemmas.List.Folds.{Any-from_list_any, list_any-from_Any}
use Rattle.attr_sets.proofs.AttributesLemmas.{same_truth}
use Rattle.dep_model.specs.Tuples.{Tuple, Relation, distinct_tuples, same_tuple}
use Rattle.dep_model.proofs.DistinctLemmas.{distinct_tuples-from, distinct_tuples-to, same_tuple-decides}
use Rattle.dep_model.proofs.ListLemmas.{Contains-map, map-member}
use Rattle.dep_model.proofs.SchemeLemmas.{members_below-no_more, members_below-none, members_below-one_more}
use Rattle.indexmap.specs.IndexSet.{insert_key}
use Rattle.row_groups.specs.Pairs.{Gets}
use Rattle.row_store.specs.Rows.{row_at}
use Rattle.table_join.specs.Lent.{lent_values, tuples_of}
use Rattle.table_join.proofs.MatchLemmas.{distinct_next, lent_gets, same_lent}
use Rattle.file_references.specs.Columns.{HasMatch, misses_none, values_on}
use Rattle.file_references.specs.Keys.{AreValues}
use Rattle.file_references.specs.Matches.{has_match, is_unmatched, unmatched_below, unmatched_rows, values_of_rows}
use Rattle.file_references.specs.References.{Includes}
use Rattle.file_references.proofs.SetLemmas.{has_member, member_of}
use Rattle.file_references.proofs.ValueLemmas.{row_in, row_of}

-- ---- the test of a match
pub match_to : (s : Relation) (k : List ℕ) (values : Tuple) → has_match s k values ≡ true → HasMatch s k values
match_to s k values h =
    let (i, u, low, at, same) = Any-from_list_any (λ (u : Tuple). same_tuple (values_on k u) values) s h in
    (u, (i, low, at), (same_tuple-decides (values_on k u) values).0 same)

pub match_from : (s : Relation) (k : List ℕ) (values : Tuple) → HasMatch s k values → has_match s k values ≡ true
match_from s k values (u, (i, low, at), is) =
    list_any-from_Any (λ (u : Tuple). same_tuple (values_on k u) values) s
    (i, u, low, at, (same_tuple-decides (values_on k u) values).1 is)

-- by the values of the rows
pub match_is : (s : Relation) (k : List ℕ) (values : Tuple) (all : Relation) (b : Bool) → AreValues s k all
    → (b ≡ true) ↔ Contains all values → has_match s k values ≡ b
match_is s k values all b are test =
    same_truth (has_match s k values) b (λ h. test.1 ((are values).1 (match_to s k values h)))
    (λ h. match_from s k values ((are values).0 (test.0 h)))

-- whether a row is unmatched, by both tests
pub unmatched_is : (x : List ℕ) (s : Relation) (k : List ℕ) (t : Tuple) (b h : Bool) → misses_none x t ≡ b
    → has_match s k (values_on x t) ≡ h → is_unmatched x s k t ≡ (b && not h)
unmatched_is x s k t b h whole matched = rw (whole, matched) refl

-- ---- one row more
pub none_unmatched : (r : Relation) (x : List ℕ) (s : Relation) (k : List ℕ) (found : List ℕ) → found ≡ []
    → found ≡ unmatched_below r x s k 0
none_unmatched r x s k found none = none ∙ sym (members_below-none (λ j. is_unmatched x s k (row_at r j)))

pub unmatched_more : (r : Relation) (x : List ℕ) (s : Relation) (k : List ℕ) (i : ℕ) (found : List ℕ)
    → found ≡ unmatched_below r x s k i → is_unmatched x s k (row_at r i) ≡ true
    → found ++ i ∷ [] ≡ unmatched_below r x s k (i + 1)
unmatched_more r x s k i found is here =
    ap (λ (rows : List ℕ). rows ++ i ∷ []) is
    ∙ sym (members_below-one_more i (i + 1) (λ j. is_unmatched x s k (row_at r j)) refl here)

pub matched_more : (r : Relation) (x : List ℕ) (s : Relation) (k : List ℕ) (i : ℕ) (found : List ℕ)
    → found ≡ unmatched_below r x s k i → is_unmatched x s k (row_at r i) ≡ false
    → found ≡ unmatched_below r x s k (i + 1)
matched_more r x s k i found is here =
    is ∙ sym (members_below-no_more i (i + 1) (λ j. is_unmatched x s k (row_at r j)) refl here)

-- ---- no row is unmatched exactly where all are included
pub includes_all : (r : Relation) (x : List ℕ) (s : Relation) (k : List ℕ) → unmatched_rows r x s k ≡ [] → Includes r x s k
includes_all r x s k none t t_in whole =
    let (i, low, at) = row_of r t t_in in
    elim (cases_Bool (has_match s k (values_on x t))) [
      | inl matched ↦ match_to s k (values_on x t) matched
      | inr lacks ↦
          let here : is_unmatched x s k t ≡ true = rw (whole, lacks) refl in
          let member = has_member (length r) (λ j. is_unmatched x s k (row_at r j)) i low (ap (is_unmatched x s k) at ∙ here) in
          absurd (omega (arith, member.1, ap length none))
    ]

pub all_included : (r : Relation) (x : List ℕ) (s : Relation) (k : List ℕ) → Includes r x s k → unmatched_rows r x s k ≡ []
all_included r x s k includes = none_of (unmatched_rows r x s k) (λ i has.
    let of = member_of (length r) (λ j. is_unmatched x s k (row_at r j)) i has in
    is_matched (row_at r i) (row_in r i of.0) of.1)
  where
    none_of : (rows : List ℕ) → ((i : ℕ) → Contains rows i → ⊥) → rows ≡ []
    none_of [] none = refl
    none_of (i ∷ rows) none = absurd (none i (0, omega arith, refl))

    is_matched : (t : Tuple) → Contains r t → is_unmatched x s k t ≡ true → ⊥
    is_matched t t_in h = by (misses_none x t) refl h
      where
        by : (b : Bool) → misses_none x t ≡ b → (b && not (has_match s k (values_on x t))) ≡ true → ⊥
        by true whole h =
            let matched = match_from s k (values_on x t) (includes t t_in whole) in
            true≢false (sym h ∙ ap not matched)
        by false whole h = true≢false (sym h)

-- the rows that are found are rows
pub unmatched_low : (r : Relation) (x : List ℕ) (s : Relation) (k : List ℕ) (i : ℕ) → Contains (unmatched_rows r x s k) i → i < length r
unmatched_low r x s k i has = (member_of (length r) (λ j. is_unmatched x s k (row_at r j)) i has).0

-- ---- the values of rows, each once
pub values_all : (r : Relation) (columns : List ℕ) (values : Relation) → values ≡ distinct_tuples (map (values_on columns) r) → AreValues r columns values
values_all r columns values is v = (
  λ has.
      let (t, t_in, at) = map-member (values_on columns) r v
      (distinct_tuples-to (map (values_on columns) r) v (subst (λ (vs : Relation). Contains vs v) is has)) in
      (t, t_in, at),
  λ (t, t_in, at). subst (λ (vs : Relation). Contains vs v) (sym is)
      (distinct_tuples-from (map (values_on columns) r) v (subst (Contains (map (values_on columns) r)) at (Contains-map (values_on columns) r t t_in))),
)

-- one list of values more
pub values_more : (listed : Relation) (i : ℕ) (keys after : List (Vec (Bor (List ℕ)) Global)) (key : Vec (Bor (List ℕ)) Global) (v : Tuple)
    → tuples_of keys ≡ distinct_tuples (take i listed) → i < length listed → get_or listed i [] ≡ v → lent_values key.items ≡ v
    → after ≡ insert_key same_lent keys key → tuples_of after ≡ distinct_tuples (take (i + 1) listed)
values_more listed i keys after key v before low at read inserted =
    let place : ℕ = position_or_len (same_lent key) keys in
    distinct_next listed i (tuples_of keys) (tuples_of after) place before low
    (subst (λ (t : Tuple). Gets t (tuples_of keys) (tuples_of after) place) (read ∙ sym at)
    (lent_gets keys after key place inserted refl))

-- the same at one of some positions
pub values_more_at : (r : Relation) (columns positions : List ℕ) (i d : ℕ) (keys after : List (Vec (Bor (List ℕ)) Global))
    (key : Vec (Bor (List ℕ)) Global) → tuples_of keys ≡ distinct_tuples (take i (values_of_rows r columns positions)) → i < length positions
    → lent_values key.items ≡ values_on columns (row_at r (get_or positions i d)) → after ≡ insert_key same_lent keys key
    → tuples_of after ≡ distinct_tuples (take (i + 1) (values_of_rows r columns positions))
values_more_at r columns positions i d keys after key before low read inserted =
    values_more (values_of_rows r columns positions) i keys after key (values_on columns (row_at r (get_or positions i d))) before
    (omega (arith, low, length-map positions (λ j. values_on columns (row_at r j))))
    (get_or-map (λ j. values_on columns (row_at r j)) positions i d [] low) read inserted
