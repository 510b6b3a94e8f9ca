-- The first of the types that are tried is one, and the types of all columns.
use Rattle.std.proofs.Common.{inl, inr, ◌≡◌, ◌<◌, ◌≤◌, ◌+◌, ℕ, Some, List, [], ◌∷◌, ◌++◌, length, slice_get, get_or, refl, sym, ap, subst, ◌∙◌, arith}
use Rattle.std.proofs.lemmas.Option.{slice_get-get_or, slice_get_within, get_or_from_slice_get}
use Rattle.std.proofs.lemmas.Bool.{cases_lt}
use Rattle.std.proofs.Math.Seq.{get_or-append_seam}
use Rattle.std.proofs.lemmas.List.{get_or_default, get_or_append_left, length-append}
use Rattle.std.proofs.lemmas.List.Sums.{AllPass-from_list_all}
use Rattle.std.specs.Prelude.{IsTrue}
use Rattle.column_types.specs.FirstTypes.{AllHave, AreTypesOf, IsFirstType, IsTypeOf, tried_types}
use Rattle.schema_model.specs.Columns.{is_column_type}
use Rattle.dep_model.specs.Tuples.{Relation}
use Rattle.schema_model.specs.declared.column_type.ColumnType.{ColumnType}
use Rattle.schema_model.specs.declared.column_type.ColumnType.TheVariants.{Text}

Some-injective : {X : Type 0} (a b : X) → Some a ≡ Some b → a ≡ b
Some-injective a b same = cc

first_once : (rows : Relation) (k : ℕ) (one other : ColumnType) → IsFirstType rows k one → IsFirstType rows k other → one ≡ other
first_once rows k one other p q = elim (cases_lt p.at q.at) [
  | inl before ↦ absurd (q.before p.at one before p.tried p.all)
  | inr from ↦ elim (cases_lt q.at p.at) [
    | inl before ↦ absurd (p.before q.at other before q.tried q.all)
    | inr upto ↦
        let same : p.at ≡ q.at = omega (arith, from, upto) in
        Some-injective one other (sym p.tried ∙ ap (slice_get tried_types) same ∙ q.tried)
  ]
]

pub type_once : (rows : Relation) (k : ℕ) (one other : ColumnType) → IsTypeOf rows k one → IsTypeOf rows k other → one ≡ other
type_once rows k one other (inl p) (inl q) = p.1 ∙ sym q.1
type_once rows k one other (inl p) (inr q) = absurd (q.0 p.0)
type_once rows k one other (inr p) (inl q) = absurd (p.0 q.0)
type_once rows k one other (inr p) (inr q) = first_once rows k one other p.1 q.1

-- ---- the search for it
-- none of the types before a position is one that all values have
abbrev pub NoneBefore : Relation → ℕ → ℕ → Type 0
NoneBefore rows k n = (j : ℕ) (other : ColumnType) → j < n → slice_get tried_types j ≡ Some other → AllHave rows k other → ⊥

pub first_found : (rows : Relation) (k n : ℕ) (d : ColumnType) → n < 15 → AllHave rows k (get_or tried_types n d)
    → NoneBefore rows k n → IsFirstType rows k (get_or tried_types n d)
first_found rows k n d within all before = record {
  at = n;
  tried = slice_get-get_or tried_types n d within;
  all = all;
  before = before;
}

pub none_more : (rows : Relation) (k n : ℕ) (d : ColumnType) → (AllHave rows k (get_or tried_types n d) → ⊥)
    → NoneBefore rows k n → NoneBefore rows k (n + 1)
none_more rows k n d not_all before j other low tried all = elim (cases_lt j n) [
  | inl front ↦ before j other front tried all
  | inr end ↦
      let at : j ≡ n = omega (arith, low, end) in
      let here : slice_get tried_types n ≡ Some other = ap (slice_get tried_types) (sym at) ∙ tried in
      not_all (subst (AllHave rows k) (sym (get_or_from_slice_get tried_types n other d here)) all)
]

-- all values are texts
pub all_texts : (rows : Relation) (k n : ℕ) → 15 ≤ n → NoneBefore rows k n → ⊥
all_texts rows k n past none = none 14 Text (omega (arith, past)) refl (λ i low. inr tt)

-- the same type, read with another default
pub have_same : (rows : Relation) (k n : ℕ) (d e : ColumnType) → n < 15 → AllHave rows k (get_or tried_types n d)
    → AllHave rows k (get_or tried_types n e)
have_same rows k n d e within all = subst (AllHave rows k) (get_or_default tried_types n d e within) all

-- each type that is tried is one that a column may have
tried_valid : (n : ℕ) (column : ColumnType) → slice_get tried_types n ≡ Some column → IsTrue (is_column_type column)
tried_valid n column tried =
    let within = slice_get_within tried_types n column tried in
    subst (λ (c : ColumnType). IsTrue (is_column_type c)) (get_or_from_slice_get tried_types n column column tried)
    (AllPass-from_list_all is_column_type tried_types refl n column within)

pub type_valid : (rows : Relation) (k : ℕ) (column : ColumnType) → IsFirstType rows k column → IsTrue (is_column_type column)
type_valid rows k column first = tried_valid first.at column first.tried

-- ---- the types of all columns
pub types_more : (rows : Relation) (columns : List ColumnType) (n : ℕ) (column : ColumnType) → length columns ≡ n
    → AreTypesOf rows columns → IsTypeOf rows n column → AreTypesOf rows (columns ++ column ∷ [])
types_more rows columns n column count types is k other here =
    let within = slice_get_within (columns ++ column ∷ []) k other here in
    let read = get_or_from_slice_get (columns ++ column ∷ []) k other other here in
    elim (cases_lt k (length columns)) [
      | inl front ↦
          let same : get_or columns k other ≡ other = sym (get_or_append_left columns (column ∷ []) other k front) ∙ read in
          types k other (slice_get-get_or columns k other front ∙ ap Some same)
      | inr end ↦
          let at : k ≡ length columns = omega (arith, within, end, length-append columns (column ∷ [])) in
          let same : column ≡ other =
          sym (get_or-append_seam columns column [] other) ∙ ap (λ (i : ℕ). get_or (columns ++ column ∷ []) i other) (sym at) ∙ read in
          subst (λ (i : ℕ). IsTypeOf rows i other) (sym (at ∙ count)) (subst (IsTypeOf rows n) same is)
    ]
