-- Flags that are counted one after the other.
use Rattle.std.proofs.Common.{◌≡◌, ◌+◌, ◌<◌, ℕ, suc, Bool, true, false, true≢false, not, List, [], ◌∷◌, ◌++◌, length, refl, sym, ap, subst, ◌∙◌, inl, inr, arith}
use Rattle.std.proofs.lemmas.Bool.{cases_lt, not-true, not_from_false}
use Rattle.std.proofs.lemmas.List.{get_or_append_left, get_or-append-add, length-append}
use Rattle.std.specs.Prelude.{◌↔◌, if◌then◌else◌}
use Rattle.attr_sets.specs.Attributes.{Attributes, count_below}
use Rattle.column_values.specs.Values.{FitsColumn}
use Rattle.csv_rows.specs.RefusalTexts.{type_of}
use Rattle.schema_model.specs.Schemas.{nullable_of}
use Rattle.dep_model.specs.Tuples.{Relation, value_at}
use Rattle.schema_model.specs.declared.column_type.ColumnType.{ColumnType}
use Rattle.schema_model.specs.Schemas.{Schema}
use Rattle.legality.specs.Parts.{flag_at}
use Rattle.row_store.specs.Rows.{row_at}
use Rattle.desk_measures.specs.Measures.{IsMistyped}

pub no_flags : (x : Attributes) → count_below x 0 ≡ 0
unfolding count_below
no_flags x = refl

flag_after : (x : Attributes) (n : ℕ) → count_below x (suc n) ≡ count_below x n + (if x n then 1 else 0)
unfolding count_below
flag_after x n = refl

pub flag_next : (x : Attributes) (n : ℕ) → count_below x (n + 1) ≡ count_below x n + (if x n then 1 else 0)
flag_next x n =
    let e : suc n ≡ n + 1 = omega arith in
    subst (λ (m : ℕ). count_below x m ≡ count_below x n + (if x n then 1 else 0)) e (flag_after x n)

pub ruleset flags_steps = (no_flags, flag_next)

-- ---- flags of values that are not of their column's type
module _ (s : Schema) (rows : Relation) (a : ℕ) where
  -- a flag more, at the end
  pub mistyped_next : (n : ℕ) (flags new : List Bool) (flag : Bool) → length flags ≡ n → new ≡ flags ++ flag ∷ []
      → ((i : ℕ) → i < n → (flag_at flags i ≡ true) ↔ IsMistyped s rows a i) → ((flag ≡ true) ↔ IsMistyped s rows a n)
      → (length new ≡ n + 1) × ((i : ℕ) → i < n + 1 → (flag_at new i ≡ true) ↔ IsMistyped s rows a i)
  mistyped_next n flags new flag size is before here =
      let longer : length new ≡ length flags + 1 = ap length is ∙ length-append flags (flag ∷ []) in (
        omega (arith, longer, size),
        λ i low. elim (cases_lt i n) [
          | inl less ↦
              let at : flag_at new i ≡ flag_at flags i =
              ap (λ (f : List Bool). flag_at f i) is ∙ get_or_append_left flags (flag ∷ []) false i (omega (arith, less, size)) in (
                λ set. (before i less).0 (sym at ∙ set),
                λ typed. at ∙ (before i less).1 typed,
              )
          | inr from_on ↦
              let last : length flags + 0 ≡ i = omega (arith, low, from_on, size) in
              let at : flag_at new i ≡ flag =
              ap (λ (f : List Bool). flag_at f i) is
              ∙ ap (flag_at (flags ++ flag ∷ [])) (sym last)
              ∙ get_or-append-add flags (flag ∷ []) 0 false in
              let same : i ≡ n = omega (arith, low, from_on) in (
                λ set. subst (IsMistyped s rows a) (sym same) (here.0 (sym at ∙ set)),
                λ typed. at ∙ here.1 (subst (IsMistyped s rows a) same typed),
              )
        ],
      )

  -- whether the value of a row is so, by its column and its bytes
  pub is_mistyped_at : (i : ℕ) (column : ColumnType) (nullable fits : Bool) (value : List ℕ)
      → column ≡ type_of s a → nullable ≡ nullable_of s a → value ≡ value_at (row_at rows i) a
      → ((fits ≡ true) ↔ FitsColumn column nullable value) → ((not fits ≡ true) ↔ IsMistyped s rows a i)
  is_mistyped_at i column nullable fits value typed may is told = (
    λ set there. true≢false (sym (told.1 (here there)) ∙ not-true fits set),
    λ mistyped. not_from_false fits (by fits (λ there. mistyped (back (told.0 there)))),
  )
    where
      here : FitsColumn (type_of s a) (nullable_of s a) (value_at (row_at rows i) a) → FitsColumn column nullable value
      here = subst (λ (c : ColumnType). FitsColumn c (nullable_of s a) (value_at (row_at rows i) a) → FitsColumn column nullable value) typed
          (subst (λ (n : Bool). FitsColumn column n (value_at (row_at rows i) a) → FitsColumn column nullable value) may
          (subst (λ (v : List ℕ). FitsColumn column nullable v → FitsColumn column nullable value) is (λ there. there)))

      back : FitsColumn column nullable value → FitsColumn (type_of s a) (nullable_of s a) (value_at (row_at rows i) a)
      back there = subst (λ (c : ColumnType). FitsColumn c (nullable_of s a) (value_at (row_at rows i) a)) typed
          (subst (λ (n : Bool). FitsColumn column n (value_at (row_at rows i) a)) may (subst (FitsColumn column nullable) is there))

      by : (b : Bool) → (b ≡ true → ⊥) → b ≡ false
      by true nope = absurd (nope refl)
      by false nope = refl
