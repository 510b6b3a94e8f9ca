-- A text of rows over some attributes of a schema: the columns of its header, and its rows.
use Rattle.std.proofs.Common.{◌≡◌, ◌+◌, ◌<◌, ◌≤◌, ◌==◌, ◌&&◌, ◌||◌, inl, inr, ℕ, zero, suc, Bool, true, false, nat_lt, nat_eq, List, [], ◌∷◌, ◌++◌, length, map, Option, Some, None, Ok, Result, slice_index_or, get_or, refl, sym, ap, subst, ◌∙◌, arith}
use Rattle.std.specs.Prelude.{◌⊎◌, if◌then◌else◌, All, AllPairs}
use Rattle.std.specs.List.{slice_get, position_or_len}
use Rattle.std.proofs.Math.ListN.{get_or-map}
use Rattle.std.proofs.lemmas.Bool.{cases_Bool, cases_eq, and_parts}
use Rattle.std.proofs.lemmas.Bool.Decides.{nat_tests}
use Rattle.std.proofs.lemmas.List.{append_assoc, append-nil, length-append, length-map, ext_get_or}
use Rattle.std.proofs.lemmas.List.Sums.{position_or_len_is}
use mathlib.Core.Path.{fun_ext}
use Rattle.attr_sets.specs.Attributes.{Attributes, IsSubset, below, count_below}
use Rattle.attr_sets.specs.Sets.{attributes}
use Rattle.attr_sets.specs.declared.set.AttrSet.{AttrSet}
use Rattle.attr_sets.proofs.AttributesLemmas.{count_below-before_member, same_at}
use Rattle.csv_migrate.proofs.ProjectionLemmas.{column_count}
use Rattle.csv_rows.specs.Columns.{with_columns, attribute_of_column, columns_of_header, columns_from, ◌>>=◌}
use Rattle.csv_rows.specs.Reading.{value_of, tuple_of, ClosedRowOf, AreFirstRows, HasScheme, PartOf, TableOf}
use Rattle.csv_rows.specs.Quotes.{open_record}
use Rattle.csv_rows.specs.Records.{records_of}
use Rattle.csv_rows.specs.declared.reading.TheConstants.{MOST_ROWS}
use Rattle.csv_rows.specs.declared.refusal.RowRefusal.{RowRefusal}
use Rattle.csv_rows.proofs.HeaderLemmas.{named_after}
use Rattle.dep_model.proofs.ListLemmas.{same_default}
use Rattle.csv_rows.proofs.PrintedRows.{own_column, other_name}
use Rattle.csv_rows.proofs.PrintedTexts.{printed_closed, printed_records}
use Rattle.dep_model.proofs.SchemeLemmas.{member_at}
use Rattle.csv_text.specs.Rows.{rows_text}
use Rattle.column_values.specs.Values.{FitsColumn}
use Rattle.schema_model.specs.Names.{IsName, same_name}
use Rattle.dep_model.specs.OnSchemes.{value_in}
use Rattle.dep_model.specs.Projections.{members_below}
use Rattle.schema_model.specs.Schemas.{names_of, width_of, attribute_named, types_of, nullable_of}
use Rattle.dep_model.specs.Tuples.{Tuple, Relation, IsOver, value_at}
use Rattle.schema_model.specs.declared.column_type.ColumnType.{ColumnType}
use Rattle.schema_model.specs.Schemas.{Schema}
use Rattle.schema_model.proofs.NameLemmas.{attribute_named-append}
use Rattle.dep_model.proofs.SchemeLemmas.{length-members_below, members_below-none, members_below-member, members_below-outside, members_below-at, members_below-one_more, members_below-no_more}
use Rattle.schema_printer.specs.Printing.{members_from}
use Rattle.schema_printer.proofs.MemberLemmas.{members_each}

-- ---- truth values
or_true : (b : Bool) → (b || true) ≡ true
or_true true = refl
or_true false = refl

or_false : (b : Bool) → (b || false) ≡ b
or_false true = refl
or_false false = refl

and_false : (b : Bool) → (b && false) ≡ false
and_false true = refl
and_false false = refl

-- ---- the members of a set, as the columns of a header
named_members : (x : Attributes) (m k : ℕ) → with_columns (members_below m x) k ≡ (nat_lt k m && x k)
named_members x zero k =
    let none : nat_lt k zero ≡ false = grind (arith, nat_tests) in
    ap (λ (l : List ℕ). with_columns l k) (members_below-none x) ∙ sym (ap (λ (b : Bool). b && x k) none)
named_members x (suc m) k = elim (cases_Bool (x m)) [
  | inl inside ↦
      ap (λ (l : List ℕ). with_columns l k) (members_below-member m x inside) ∙ same_at (named_after (members_below m x) m) k
      ∙ ap (λ (b : Bool). b || (k == m)) (named_members x m k) ∙ at inside (cases_eq k m)
  | inr outside ↦
      ap (λ (l : List ℕ). with_columns l k) (members_below-outside m x outside) ∙ named_members x m k
      ∙ past outside (cases_eq k m)
]
  where
    at : x m ≡ true → (k ≡ m) ⊎ (k ≡ m → ⊥) → ((nat_lt k m && x k) || (k == m)) ≡ (nat_lt k (suc m) && x k)
    at inside (inl is) =
        let has : x k ≡ true = ap x is ∙ inside in
        let here : (k == m) ≡ true = grind (arith, nat_tests, is) in
        let low : nat_lt k (suc m) ≡ true = grind (arith, nat_tests, is) in
        ap (λ (b : Bool). (nat_lt k m && x k) || b) here ∙ or_true (nat_lt k m && x k)
        ∙ sym (ap (λ (b : Bool). b && x k) low ∙ has)
    at inside (inr other) =
        let same : nat_lt k m ≡ nat_lt k (suc m) = grind (arith, nat_tests, other) in
        let apart : (k == m) ≡ false = grind (arith, nat_tests, other) in
        ap (λ (b : Bool). (nat_lt k m && x k) || b) apart ∙ or_false (nat_lt k m && x k)
        ∙ ap (λ (b : Bool). b && x k) same

    past : x m ≡ false → (k ≡ m) ⊎ (k ≡ m → ⊥) → (nat_lt k m && x k) ≡ (nat_lt k (suc m) && x k)
    past outside (inl is) =
        let lacks : x k ≡ false = ap x is ∙ outside in
        ap (λ (b : Bool). nat_lt k m && b) lacks ∙ and_false (nat_lt k m)
        ∙ sym (ap (λ (b : Bool). nat_lt k (suc m) && b) lacks ∙ and_false (nat_lt k (suc m)))
    past outside (inr other) =
        let same : nat_lt k m ≡ nat_lt k (suc m) = grind (arith, nat_tests, other) in
        ap (λ (b : Bool). b && x k) same

members_same : (n : ℕ) (x y : Attributes) → ((k : ℕ) → k < n → x k ≡ y k) → members_below n x ≡ members_below n y
members_same zero x y same = members_below-none x ∙ sym (members_below-none y)
members_same (suc n) x y same =
    let low = members_same n x y (λ k less. same k (omega (arith, less))) in
    let here : x n ≡ y n = same n (omega arith) in
    elim (cases_Bool (x n)) [
      | inl inside ↦
          members_below-member n x inside ∙ ap (λ (l : List ℕ). l ++ n ∷ []) low
          ∙ sym (members_below-member n y (sym here ∙ inside))
      | inr outside ↦
          members_below-outside n x outside ∙ low ∙ sym (members_below-outside n y (sym here ∙ outside))
    ]

-- the attributes of the columns are the members
columns_are : (n : ℕ) (x : Attributes) → members_below n (with_columns (members_below n x)) ≡ members_below n x
columns_are n x =
    members_same n (with_columns (members_below n x)) x
    (λ k less. let low : nat_lt k n ≡ true = grind (arith, nat_tests, less) in named_members x n k ∙ ap (λ (b : Bool). b && x k) low)

-- ---- the header
part_columns_from : (x : Attributes) (before after : List (List ℕ))
    → AllPairs (λ a b. same_name a b ≡ false) (before ++ after)
    → columns_from (before ++ after) (members_below (length before) x) (members_from x (length before) after)
    ≡ Ok (members_below (length (before ++ after)) x)
unfolding columns_from
part_columns_from x before [] differ =
    ap (λ (l : List (List ℕ)). Ok (members_below (length l) x)) (sym (append-nil before))
part_columns_from x before (name ∷ after) differ =
    let m = length before in
    let names = before ++ name ∷ after in
    let split : (before ++ name ∷ []) ++ after ≡ names = append_assoc before (name ∷ []) after in
    let size : length (before ++ name ∷ []) ≡ m + 1 = length-append before (name ∷ []) in
    let later = part_columns_from x (before ++ name ∷ []) after
    (subst (λ (l : List (List ℕ)). AllPairs (λ a b. same_name a b ≡ false) l) (sym split) differ) in
    let rest : columns_from names (members_below (m + 1) x) (members_from x (m + 1) after)
    ≡ Ok (members_below (length names) x) =
    subst (λ (k : ℕ). columns_from names (members_below k x) (members_from x k after) ≡ Ok (members_below (length names) x)) size
    (subst (λ (l : List (List ℕ)). columns_from l (members_below (length (before ++ name ∷ [])) x)
    (members_from x (length (before ++ name ∷ [])) after) ≡ Ok (members_below (length l) x)) split later) in
    elim (cases_Bool (x m)) [
      | inl inside ↦
          let none : All (λ b. same_name b name ≡ false) before = λ k d h. other_name before name after k d h differ in
          let position : attribute_named names name ≡ Some m = attribute_named-append before name after none in
          let low : nat_lt m m ≡ false = grind (arith, nat_tests) in
          let unused : with_columns (members_below m x) m ≡ false = named_members x m m ∙ ap (λ (b : Bool). b && x m) low in
          let column : attribute_of_column (length (members_below m x) + 1) (with_columns (members_below m x))
          (attribute_named names name) ≡ Ok m =
          own_column _ m _ _ position unused in
          ap (λ (b : Bool). columns_from names (members_below m x)
          (if b then name ∷ members_from x (m + 1) after else members_from x (m + 1) after)) inside
          ∙ ap (λ (r : Result ℕ RowRefusal). r >>= (λ a. columns_from names (members_below m x ++ a ∷ [])
          (members_from x (m + 1) after))) column
          ∙ ap (λ (l : List ℕ). columns_from names l (members_from x (m + 1) after))
          (sym (members_below-one_more m (m + 1) x refl inside))
          ∙ rest
      | inr outside ↦
          ap (λ (b : Bool). columns_from names (members_below m x)
          (if b then name ∷ members_from x (m + 1) after else members_from x (m + 1) after)) outside
          ∙ ap (λ (l : List ℕ). columns_from names l (members_from x (m + 1) after))
          (sym (members_below-no_more m (m + 1) x refl outside))
          ∙ rest
    ]

part_columns : (names : List (List ℕ)) (x : Attributes) → AllPairs (λ a b. same_name a b ≡ false) names
    → columns_of_header names (members_from x 0 names) ≡ Ok (members_below (length names) x)
part_columns names x differ =
    ap (λ (l : List ℕ). columns_from names l (members_from x 0 names)) (sym (members_below-none x))
    ∙ part_columns_from x [] names differ

-- ---- the rows
column_is : (n : ℕ) (x : Attributes) (k : ℕ) → k < length (members_below n x)
    → position_or_len (nat_eq (get_or (members_below n x) k 0)) (members_below n x) ≡ k
column_is n x k small =
    let ms = members_below n x in
    position_or_len_is (nat_eq (get_or ms k 0)) ms k 0 (omega (arith, small)) (λ j less. apart j less)
    (λ inside. grind (arith, nat_tests))
  where
    at : (i : ℕ) → i < length (members_below n x) → i ≡ count_below x (get_or (members_below n x) i 0)
    at i low =
        let d = get_or (members_below n x) i 0 in
        (member_at n x i d low (same_default (members_below n x) i 0 d low)).2

    apart : (j : ℕ) → j < k → nat_eq (get_or (members_below n x) k 0) (get_or (members_below n x) j 0) ≡ false
    apart j less =
        by (cases_eq (get_or (members_below n x) k 0) (get_or (members_below n x) j 0))
      where
        by : (get_or (members_below n x) k 0 ≡ get_or (members_below n x) j 0)
            ⊎ (get_or (members_below n x) k 0 ≡ get_or (members_below n x) j 0 → ⊥)
            → nat_eq (get_or (members_below n x) k 0) (get_or (members_below n x) j 0) ≡ false
        by (inl same) =
            let equal : k ≡ j = at k small ∙ ap (count_below x) same ∙ sym (at j (omega (arith, less, small))) in
            absurd (omega (arith, less, equal))
        by (inr other) = grind (arith, nat_tests, other)

-- the value in the column of a member
value_is : (n : ℕ) (x : Attributes) (t : Tuple) (k : ℕ) → k < length (members_below n x)
    → value_of (members_below n x) t (get_or (members_below n x) k 0) ≡ value_at t k
value_is n x t k small = ap (λ (j : ℕ). slice_index_or t j []) (column_is n x k small)

tuple_is : (n : ℕ) (x : Attributes) (t : Tuple) → length t ≡ count_below x n → t ≡ tuple_of n (members_below n x) t
tuple_is n x t size =
    let ms = members_below n x in
    let count : length ms ≡ count_below x n = length-members_below n x in
    let long : length (map (value_of ms t) ms) ≡ count_below x n = length-map ms (value_of ms t) ∙ count in
    ext_get_or [] t (map (value_of ms t) ms) (size ∙ sym long) (λ k less.
    let small : k < length ms = omega (arith, less, size, count) in
    let inside : k < length (map (value_of ms t) ms) = omega (arith, small, long, count) in
    sym (same_default (map (value_of ms t) ms) k [] (value_of ms t 0) inside ∙ get_or-map (value_of ms t) ms k 0 ∙ value_is n x t k small))
    ∙ ap (λ (l : List ℕ). map (value_of ms t) l) (sym (columns_are n x))

-- the values of a tuple over a scheme fit their columns
abbrev pub FitsItsColumns : Schema → Attributes → Tuple → Type 0
FitsItsColumns s x t =
    (k : ℕ) (column : ColumnType) → x k ≡ true → slice_get (types_of s) k ≡ Some column
    → FitsColumn column (nullable_of s k) (value_in x t k)

row_is : (s : Schema) (x : Attributes) (row : ℕ) (t : Tuple) → length t ≡ count_below x (width_of s) → row ≤ MOST_ROWS
    → FitsItsColumns s x t → ClosedRowOf s (members_below (width_of s) x) row t (Ok t)
row_is s x row t size within_limit typed =
    let n = width_of s in
    let ms = members_below n x in (
      (size ∙ sym (length-members_below n x), within_limit),
      tuple_is n x t size,
      λ a has column is.
          let both = and_parts (nat_lt a n) (x a) (sym (named_members x n a) ∙ has) in
          let is_low : nat_lt a n ≡ true = both.0 in
          let low : a < n = grind (arith, nat_tests, is_low) in
          let c = count_below x a in
          let small : c < length ms = omega (arith, length-members_below n x, count_below-before_member n a x low both.1) in
          let at : get_or ms c 0 ≡ a = members_below-at n x a 0 low both.1 in
          subst (λ (value : List ℕ). FitsColumn column (nullable_of s a) value) (sym (ap (value_of ms t) (sym at) ∙ value_is n x t c small))
          (typed a column both.1 is),
    )

-- ---- the text
-- a text of rows over a scheme that has an attribute, by what its header means
rows_mean : (s : Schema) (x : Attributes) (rows : Relation) (Means : List (List ℕ) → Result (List ℕ) RowRefusal → Type 0)
    → Means (members_from x 0 (names_of s)) (Ok (members_below (width_of s) x)) → All IsName (names_of s)
    → 0 < count_below x (width_of s) → IsOver (count_below x (width_of s)) rows → All (FitsItsColumns s x) rows → length rows ≤ MOST_ROWS
    → TableOf s Means (open_record (rows_text (members_from x 0 (names_of s)) rows)) (records_of (rows_text (members_from x 0 (names_of s)) rows)) (Ok rows)
rows_mean s x rows Means means named not_empty over typed within_limit =
    let names = names_of s in
    let header = members_from x 0 names in
    let columns = members_below (width_of s) x in
    let wide : All (λ row. 0 < length row) rows = λ k d h. omega (arith, over k d h, not_empty) in
    let long : 0 < length header = omega (arith, not_empty, column_count x names) in
    let header_named = members_each IsName x 0 names named in
    let records : records_of (rows_text header rows) ≡ header ∷ rows = printed_records header rows long header_named wide in
    let closed : open_record (rows_text header rows) ≡ None = printed_closed header rows long header_named in
    let first : AreFirstRows s columns None rows rows = record {
      within = omega arith;
      each =
          λ i less. row_is s x (i + 1) (slice_index_or rows i []) (over i [] less) (omega (arith, less, within_limit)) (typed i [] less);
    } in
    subst (λ (rs : List (List (List ℕ))). TableOf s Means (open_record (rows_text header rows)) rs (Ok rows)) (sym records)
    (subst (λ (o : Option ℕ). TableOf s Means o (header ∷ rows) (Ok rows)) (sym closed) (Ok columns, means, (first, refl)))

pub part_back : (s : Schema) (x : Attributes) (rows : Relation) → All IsName (names_of s)
    → 0 < count_below x (width_of s) → IsOver (count_below x (width_of s)) rows → All (FitsItsColumns s x) rows
    → length rows ≤ MOST_ROWS → PartOf s (rows_text (members_from x 0 (names_of s)) rows) (Ok rows)
part_back s x rows named not_empty over typed within_limit =
    rows_mean s x rows (λ fields found. found ≡ columns_of_header (names_of s) fields)
    (sym (part_columns (names_of s) x s.valid.names_differ)) named not_empty over typed within_limit

-- the header of such a text names these attributes
pub scheme_back : (s : Schema) (x : AttrSet) (rows : Relation) → IsSubset (attributes x) (below (width_of s))
    → All IsName (names_of s) → 0 < count_below (attributes x) (width_of s)
    → IsOver (count_below (attributes x) (width_of s)) rows
    → HasScheme s (rows_text (members_from (attributes x) 0 (names_of s)) rows) x
scheme_back s x rows within named not_empty over =
    let header = members_from (attributes x) 0 (names_of s) in
    let wide : All (λ row. 0 < length row) rows = λ k d h. omega (arith, over k d h, not_empty) in
    let long : 0 < length header = omega (arith, not_empty, column_count (attributes x) (names_of s)) in (
      header,
      rows,
      printed_records header rows long (members_each IsName (attributes x) 0 (names_of s) named) wide,
      members_below (width_of s) (attributes x),
      part_columns (names_of s) (attributes x) s.valid.names_differ,
      fun_ext (λ (k : ℕ). sym (named_members (attributes x) (width_of s) k ∙ inside k (cases_Bool (attributes x k)))),
    )
  where
    inside : (k : ℕ) → (attributes x k ≡ true) ⊎ (attributes x k ≡ false)
        → (nat_lt k (width_of s) && attributes x k) ≡ attributes x k
    inside k (inl is) = ap (λ (b : Bool). b && attributes x k) (within k is)
    inside k (inr lacks) =
        ap (λ (b : Bool). nat_lt k (width_of s) && b) lacks ∙ and_false (nat_lt k (width_of s)) ∙ sym lacks
