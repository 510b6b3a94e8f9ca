-- Whether columns are a key of rows, row by row.
use Rattle.std.specs.Prelude.{Contains, slice_get}
use Rattle.std.proofs.Common.{inl, inr, ◌≡◌, ◌+◌, ◌<◌, ℕ, true, false, true≢false, List, [], ◌∷◌, ◌++◌, length, Some, sym, ap, subst, ◌∙◌, arith}
use Rattle.std.proofs.lemmas.Bool.{cases_lt}
use Rattle.std.proofs.lemmas.List.{get_or_append_left, length-append}
use Rattle.std.proofs.lemmas.List.Elements.{Contains-append_left, Contains-get_or, Contains-push}
use Rattle.std.proofs.lemmas.Option.{get_or_from_slice_get, slice_get-get_or, slice_get_within}
use Rattle.std.proofs.Math.Seq.{get_or-append_seam}
use Rattle.dep_model.specs.Tuples.{Tuple, Relation}
use Rattle.dep_model.proofs.ListLemmas.{same_default}
use Rattle.row_groups.specs.Numberings.{number_at}
use Rattle.row_groups.specs.Pairs.{Gets}
use Rattle.row_store.specs.Rows.{row_at}
use Rattle.file_references.specs.Columns.{HasMatch, misses_none, values_on}
use Rattle.file_references.specs.Keys.{HoldsKey, HoldsKeySoFar, IsWholeKey}
use Rattle.file_references.proofs.ValueLemmas.{row_in, row_of}

-- ---- no row yet
pub none_yet : (r : Relation) (columns : List ℕ) (values : Relation) (firsts : List ℕ) → values ≡ [] → firsts ≡ []
    → HoldsKeySoFar r columns 0 values firsts
none_yet r columns values firsts no_values no_firsts = record {
  one_each = ap length no_firsts ∙ sym (ap length no_values);
  first = λ g low. absurd (omega (arith, low, ap length no_firsts));
  whole = λ j low. absurd (omega (arith, low));
  listed = λ j low. absurd (omega (arith, low));
  agree = λ j g low. absurd (omega (arith, low));
}

-- ---- one row more
-- a member at a position
there : (values : Relation) (g : ℕ) (v : Tuple) → slice_get values g ≡ Some v → row_at values g ≡ v
there values g v is =
    same_default values g [] v (slice_get_within values g v is) ∙ get_or_from_slice_get values g v v is

found_at : (values : Relation) (v : Tuple) → Contains values v → (g : ℕ) × (g < length values) × (row_at values g ≡ v)
found_at values v has = row_of values v has

module _ (r : Relation) (columns : List ℕ) (i : ℕ) (values : Relation) (firsts : List ℕ)
    (old : HoldsKeySoFar r columns i values firsts) (here : misses_none columns (row_at r i) ≡ true) where
  abbrev value : Tuple
  value = values_on columns (row_at r i)

  whole_more : (j : ℕ) → j < i + 1 → misses_none columns (row_at r j) ≡ true
  whole_more j low = elim (cases_lt j i) [
    | inl less ↦ old.whole j less
    | inr other ↦
        let same : j ≡ i = omega (arith, low, other) in
        subst (λ (k : ℕ). misses_none columns (row_at r k) ≡ true) (sym same) here
  ]

  -- the row has values that were seen
  again_agrees : (place : ℕ) → place < length firsts → row_at values place ≡ value
      → row_at r (number_at firsts place) ≡ row_at r i → (g : ℕ) → g < length firsts → value ≡ row_at values g
      → row_at r i ≡ row_at r (number_at firsts g)
  again_agrees place low at same g l is =
      let first = old.first place low in
      sym same ∙ old.agree (number_at firsts place) g first.0 l (first.1 ∙ at ∙ is)

  pub again : (place : ℕ) → slice_get values place ≡ Some value → row_at r (number_at firsts place) ≡ row_at r i
      → HoldsKeySoFar r columns (i + 1) values firsts
  again place is same =
      let low : place < length firsts = omega (arith, old.one_each, slice_get_within values place value is) in
      let at : row_at values place ≡ value = there values place value is in
      record {
        one_each = old.one_each;
        first = λ g l. let f = old.first g l in (omega (arith, f.0), f.1);
        whole = whole_more;
        listed = λ j l. elim (cases_lt j i) [
          | inl less ↦ old.listed j less
          | inr other ↦
              let last : j ≡ i = omega (arith, l, other) in
              subst (λ (k : ℕ). Contains values (values_on columns (row_at r k))) (sym last)
              (subst (Contains values) at (Contains-get_or values place [] (slice_get_within values place value is)))
        ];
        agree = λ j g l m values_are. elim (cases_lt j i) [
          | inl less ↦ old.agree j g less m values_are
          | inr other ↦
              let last : j ≡ i = omega (arith, l, other) in
              ap (row_at r) last ∙ again_agrees place low at same g m (ap (λ (k : ℕ). values_on columns (row_at r k)) (sym last) ∙ values_are)
        ];
      }

  -- the row has others
  module _ (fresh : (g : ℕ) → slice_get values g ≡ Some value → ⊥) where
    not_there : (g : ℕ) → g < length values → row_at values g ≡ value → ⊥
    not_there g low is = fresh g (slice_get-get_or values g [] low ∙ ap Some is)

    abbrev more_values : Relation
    more_values = values ++ value ∷ []

    abbrev more_firsts : List ℕ
    more_firsts = firsts ++ i ∷ []

    size_values : length more_values ≡ length values + 1
    size_values = length-append values (value ∷ [])

    size_firsts : length more_firsts ≡ length firsts + 1
    size_firsts = length-append firsts (i ∷ [])

    old_first : (g : ℕ) → g < length firsts → number_at more_firsts g ≡ number_at firsts g
    old_first g low = get_or_append_left firsts (i ∷ []) 0 g low

    old_value : (g : ℕ) → g < length values → row_at more_values g ≡ row_at values g
    old_value g low = get_or_append_left values (value ∷ []) [] g low

    last_first : (g : ℕ) → g ≡ length firsts → number_at more_firsts g ≡ i
    last_first g is = ap (number_at more_firsts) is ∙ get_or-append_seam firsts i [] 0

    last_value : (g : ℕ) → g ≡ length values → row_at more_values g ≡ value
    last_value g is = ap (row_at more_values) is ∙ get_or-append_seam values value [] []

    first_more : (g : ℕ) → g < length more_firsts
        → (number_at more_firsts g < i + 1) × (values_on columns (row_at r (number_at more_firsts g)) ≡ row_at more_values g)
    first_more g l = elim (cases_lt g (length firsts)) [
      | inl less ↦
          let f = old.first g less in (
            omega (arith, f.0, old_first g less),
            ap (λ (k : ℕ). values_on columns (row_at r k)) (old_first g less) ∙ f.1
                ∙ sym (old_value g (omega (arith, less, old.one_each))),
          )
      | inr other ↦
          let last : g ≡ length firsts = omega (arith, l, size_firsts, other) in (
            omega (arith, last_first g last),
            ap (λ (k : ℕ). values_on columns (row_at r k)) (last_first g last)
                ∙ sym (last_value g (last ∙ old.one_each)),
          )
    ]

    -- an earlier row has none of the new values
    earlier_agrees : (j g : ℕ) → j < i → g < length more_firsts → values_on columns (row_at r j) ≡ row_at more_values g
        → row_at r j ≡ row_at r (number_at more_firsts g)
    earlier_agrees j g less l is = elim (cases_lt g (length firsts)) [
      | inl low ↦
          old.agree j g less low (is ∙ old_value g (omega (arith, low, old.one_each)))
          ∙ ap (row_at r) (sym (old_first g low))
      | inr other ↦
          let last : g ≡ length values = omega (arith, l, size_firsts, other, old.one_each) in
          let (h, low, at) = found_at values (values_on columns (row_at r j)) (old.listed j less) in
          absurd (not_there h low (at ∙ is ∙ last_value g last))
    ]

    last_agrees : (g : ℕ) → g < length more_firsts → value ≡ row_at more_values g → row_at r i ≡ row_at r (number_at more_firsts g)
    last_agrees g l is = elim (cases_lt g (length firsts)) [
      | inl low ↦
          let within : g < length values = omega (arith, low, old.one_each) in
          absurd (not_there g within (sym (old_value g within) ∙ sym is))
      | inr other ↦ ap (row_at r) (sym (last_first g (omega (arith, l, size_firsts, other))))
    ]

    pub new_row : HoldsKeySoFar r columns (i + 1) more_values more_firsts
    new_row = record {
      one_each = omega (arith, size_values, size_firsts, old.one_each);
      first = first_more;
      whole = whole_more;
      listed = λ j l. elim (cases_lt j i) [
        | inl less ↦ Contains-append_left values (value ∷ []) (values_on columns (row_at r j)) (old.listed j less)
        | inr other ↦
            let last : j ≡ i = omega (arith, l, other) in
            subst (λ (k : ℕ). Contains more_values (values_on columns (row_at r k))) (sym last) (Contains-push values value)
      ];
      agree = λ j g l m is. elim (cases_lt j i) [
        | inl less ↦ earlier_agrees j g less m is
        | inr other ↦
            let last : j ≡ i = omega (arith, l, other) in
            ap (row_at r) last ∙ last_agrees g m (ap (λ (k : ℕ). values_on columns (row_at r k)) (sym last) ∙ is)
      ];
    }

-- ---- what a set of values does with those of the row
module _ (r : Relation) (columns : List ℕ) (i : ℕ) (values : Relation) (firsts : List ℕ)
    (old : HoldsKeySoFar r columns i values firsts) (after : Relation) (place : ℕ) (v : Tuple)
    (read : v ≡ values_on columns (row_at r i)) (gets : Gets v values after place) where
  -- they are new
  pub gets_new : misses_none columns (row_at r i) ≡ true → place ≡ length firsts → (more : List ℕ) → more ≡ firsts ++ i ∷ []
      → HoldsKeySoFar r columns (i + 1) after more
  gets_new here last more is = elim gets.number [
    | inl same ↦ absurd (omega (arith, last, old.one_each, slice_get_within values place v same.1))
    | inr new ↦
        subst (λ (vs : Relation). HoldsKeySoFar r columns (i + 1) vs more) (sym (new.0 ∙ ap (λ (t : Tuple). values ++ t ∷ []) read))
        (subst (HoldsKeySoFar r columns (i + 1) (values ++ values_on columns (row_at r i) ∷ [])) (sym is)
        (new_row r columns i values firsts old here
        (λ g at. new.2 g (at ∙ ap Some (sym read)))))
  ]

  -- they were seen
  pub gets_old : (place ≡ length firsts → ⊥) → (after ≡ values) × (slice_get values place ≡ Some (values_on columns (row_at r i)))
  gets_old other = elim gets.number [
    | inl same ↦ (same.0, same.1 ∙ ap Some read)
    | inr new ↦ absurd (other (new.1 ∙ sym old.one_each))
  ]

  pub low_first : (place ≡ length firsts → ⊥) → (place < length firsts) × (number_at firsts place < i)
  low_first other =
      let low : place < length firsts =
      omega (arith, old.one_each, slice_get_within values place (values_on columns (row_at r i)) (gets_old other).1) in
      (low, (old.first place low).0)

-- ---- all rows
pub all_hold : (r : Relation) (columns : List ℕ) (i : ℕ) (values : Relation) (firsts : List ℕ) → length r ≡ i
    → HoldsKeySoFar r columns i values firsts → HoldsKey r columns values
all_hold r columns i values firsts all so_far = record {
  key = record { whole = whole; identifies = identifies };
  exact = λ v. (to v, from v);
}
  where
    low : (j : ℕ) → j < length r → j < i
    low j l = omega (arith, l, all)

    whole : (t : Tuple) → Contains r t → misses_none columns t ≡ true
    whole t t_in =
        let (j, l, is) = row_of r t t_in in
        subst (λ (u : Tuple). misses_none columns u ≡ true) is (so_far.whole j (low j l))

    identifies : (t u : Tuple) → Contains r t → Contains r u → values_on columns t ≡ values_on columns u → t ≡ u
    identifies t u t_in u_in same =
        let (j, j_low, j_is) = row_of r t t_in in
        let (k, k_low, k_is) = row_of r u u_in in
        let (g, g_low, at) = found_at values (values_on columns (row_at r j)) (so_far.listed j (low j j_low)) in
        let within : g < length firsts = omega (arith, g_low, so_far.one_each) in
        let one = so_far.agree j g (low j j_low) within (sym at) in
        let other = so_far.agree k g (low k k_low) within
        (ap (values_on columns) k_is ∙ sym same ∙ ap (values_on columns) (sym j_is) ∙ sym at) in
        sym j_is ∙ one ∙ sym other ∙ k_is

    to : (v : Tuple) → Contains values v → HasMatch r columns v
    to v has =
        let (g, g_low, at) = found_at values v has in
        let first = so_far.first g (omega (arith, g_low, so_far.one_each)) in
        (row_at r (number_at firsts g), row_in r (number_at firsts g) (omega (arith, first.0, all)), first.1 ∙ at)

    from : (v : Tuple) → HasMatch r columns v → Contains values v
    from v (t, t_in, is) =
        let (j, l, at) = row_of r t t_in in
        subst (Contains values) (ap (values_on columns) at ∙ is) (so_far.listed j (low j l))

-- ---- what is no key
pub misses_one : (r : Relation) (columns : List ℕ) (i : ℕ) → i < length r → misses_none columns (row_at r i) ≡ false
    → IsWholeKey r columns → ⊥
misses_one r columns i low misses key = true≢false (sym (key.whole (row_at r i) (row_in r i low)) ∙ misses)

pub not_apart : (r : Relation) (columns : List ℕ) (i : ℕ) (values : Relation) (firsts : List ℕ) (place : ℕ)
    → i < length r → HoldsKeySoFar r columns i values firsts → slice_get values place ≡ Some (values_on columns (row_at r i))
    → (row_at r (number_at firsts place) ≡ row_at r i → ⊥) → IsWholeKey r columns → ⊥
not_apart r columns i values firsts place low so_far is differ key =
    let within : place < length firsts =
    omega (arith, so_far.one_each, slice_get_within values place (values_on columns (row_at r i)) is) in
    let first = so_far.first place within in
    differ (key.identifies (row_at r (number_at firsts place)) (row_at r i)
    (row_in r (number_at firsts place) (omega (arith, first.0, low))) (row_in r i low)
    (first.1 ∙ there values place (values_on columns (row_at r i)) is))
