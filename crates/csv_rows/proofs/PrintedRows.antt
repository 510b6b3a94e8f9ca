-- Printed rows: the columns of the header of the printed text, and the rows.
use Rattle.std.proofs.Common.{◌≡◌, ◌+◌, ◌<◌, ◌≤◌, ◌==◌, ◌&&◌, ◌||◌, ℕ, zero, suc, Bool, true, false, nat_lt, nat_eq, List, [], ◌∷◌, ◌++◌, length, map, Option, Some, None, Result, Ok, IsTrue, slice_index_or, get_or, refl, sym, ap, subst, ◌∙◌, arith}
use Rattle.std.specs.Prelude.{All, AllPairs}
use Rattle.std.specs.List.{position_or_len, range_with_len}
use Rattle.std.proofs.Math.ListN.{get_or-map}
use Rattle.std.proofs.lemmas.Bool.Decides.{nat_tests}
use Rattle.std.proofs.lemmas.List.{append_assoc, append-nil, length-append, length-map, ext_get_or}
use Rattle.std.proofs.lemmas.List.FromFn.{length-range_with_len, get_or-range_with_len}
use Rattle.std.proofs.lemmas.List.Sums.{position_or_len_is}
use Rattle.attr_sets.specs.Attributes.{Attributes, IsSubset, below}
use Rattle.schema_model.specs.Names.{IsName, same_name}
use Rattle.dep_model.specs.Projections.{members_below}
use Rattle.schema_model.specs.Schemas.{names_of, width_of, attribute_named, types_of, nullable_of}
use Rattle.dep_model.specs.Tuples.{Tuple, Relation, IsOver, value_at}
use Rattle.column_values.specs.Values.{FitsColumn, FitsColumns, FitsEach}
use Rattle.schema_model.specs.Schemas.{Schema}
use Rattle.dep_model.proofs.SchemeLemmas.{length-members_below, members_below-at}
use Rattle.schema_model.proofs.NameLemmas.{attribute_named-append}
use Rattle.csv_rows.proofs.HeaderLemmas.{named_after}
use Rattle.dep_model.proofs.ListLemmas.{range_more, same_default}
use Rattle.csv_rows.proofs.ReadingLemmas.{whole_count}
use Rattle.csv_rows.specs.Columns.{with_columns, attribute_of_column, columns_of_header, columns_from, IsHeaderOf, ◌>>=◌}
use Rattle.csv_rows.specs.Reading.{value_of, tuple_of, ClosedRowOf, AreFirstRows, RowsOf, TableOf}
use Rattle.csv_rows.proofs.PrintedTexts.{printed_closed, printed_records}
use Rattle.csv_rows.specs.Quotes.{open_record}
use Rattle.csv_rows.specs.Records.{records_of}
use Rattle.csv_text.specs.Rows.{rows_text}
use Rattle.csv_rows.specs.declared.reading.TheConstants.{MOST_ROWS}
use Rattle.csv_rows.specs.declared.refusal.RowRefusal.{RowRefusal}
use Rattle.attr_sets.proofs.AttributesLemmas.{same_at}

-- ---- the columns of the header
one_column_more : (n : ℕ) → range_with_len 0 (suc n) ≡ range_with_len 0 n ++ n ∷ []
one_column_more n = let next : suc n ≡ n + 1 = omega arith in ap (range_with_len 0) next ∙ range_more n

pub named_range : (n k : ℕ) → with_columns (range_with_len 0 n) k ≡ nat_lt k n
named_range zero k = grind (arith, nat_tests)
named_range (suc n) k =
    ap (λ (l : List ℕ). with_columns l k) (one_column_more n) ∙ same_at (named_after (range_with_len 0 n) n) k
    ∙ ap (λ (b : Bool). b || (k == n)) (named_range n k) ∙ grind (arith, nat_tests)

pub own_column : (column m : ℕ) (x : Attributes) (o : Option ℕ) → o ≡ Some m → x m ≡ false → attribute_of_column column x o ≡ Ok m
own_column column m x o e f = rw (e, f) refl

get_or-append : (before : List (List ℕ)) (name : List ℕ) (after : List (List ℕ)) (d : List ℕ)
    → get_or (before ++ name ∷ after) (length before) d ≡ name
get_or-append [] name after d = refl
get_or-append (b ∷ before) name after d = get_or-append before name after d

pub other_name : (before : List (List ℕ)) (name : List ℕ) (after : List (List ℕ)) (k : ℕ) (d : List ℕ) → k < length before
    → AllPairs (λ a b. same_name a b ≡ false) (before ++ name ∷ after)
    → same_name (slice_index_or before k d) name ≡ false
other_name [] name after k d h differ = absurd (omega (arith, h))
other_name (b ∷ before) name after zero d h differ =
    let inside : suc (length before) < length (b ∷ (before ++ name ∷ after)) =
    omega (arith, length-append before (name ∷ after)) in
    subst (λ (n : List ℕ). same_name b n ≡ false) (get_or-append before name after d) (differ 0 (suc (length before)) d (omega arith) inside)
other_name (b ∷ before) name after (suc k) d h differ =
    other_name before name after k d (omega (arith, h))
    (λ i j e less in_list. differ (suc i) (suc j) e (omega (arith, less)) (omega (arith, in_list)))

own_columns_from : (before after : List (List ℕ)) → AllPairs (λ a b. same_name a b ≡ false) (before ++ after)
    → columns_from (before ++ after) (range_with_len 0 (length before)) after ≡ Ok
    (range_with_len 0 (length (before ++ after)))
unfolding columns_from
own_columns_from before [] differ =
    ap (λ (l : List (List ℕ)). Ok (range_with_len 0 (length l))) (sym (append-nil before))
own_columns_from before (name ∷ after) differ =
    let m = length before in
    let names = before ++ name ∷ after in
    let split : (before ++ name ∷ []) ++ after ≡ names = append_assoc before (name ∷ []) after in
    let size : length (before ++ name ∷ []) ≡ suc m = length-append before (name ∷ []) ∙ omega arith in
    let none : All (λ b. same_name b name ≡ false) before = λ k d h. other_name before name after k d h differ in
    let lookup : attribute_named names name ≡ Some m = attribute_named-append before name after none in
    let unused : with_columns (range_with_len 0 m) m ≡ false = named_range m m ∙ grind (arith, nat_tests) in
    let column : attribute_of_column (length (range_with_len 0 m) + 1) (with_columns (range_with_len 0 m))
    (attribute_named names name) ≡ Ok m =
    own_column _ m _ _ lookup unused in
    let columns : range_with_len 0 m ++ m ∷ [] ≡ range_with_len 0 (length (before ++ name ∷ [])) =
    sym (one_column_more m) ∙ ap (range_with_len 0) (sym size) in
    let rest =
    own_columns_from (before ++ name ∷ []) after
    (subst (λ (l : List (List ℕ)). AllPairs (λ a b. same_name a b ≡ false) l) (sym split) differ) in
    ap (λ (r : Result ℕ RowRefusal). r >>= (λ a. columns_from names (range_with_len 0 m ++ a ∷ []) after)) column
    ∙ ap (λ (l : List ℕ). columns_from names l after) columns
    ∙ subst (λ (l : List (List ℕ)). columns_from l (range_with_len 0 (length (before ++ name ∷ []))) after ≡ Ok (range_with_len 0 (length l))) split rest

own_columns : (names : List (List ℕ)) → AllPairs (λ a b. same_name a b ≡ false) names
    → columns_of_header names names ≡ Ok (range_with_len 0 (length names))
own_columns names differ = own_columns_from [] names differ

-- ---- the rows
all_named : (n : ℕ) → IsSubset (below n) (with_columns (range_with_len 0 n))
all_named n k in_below = named_range n k ∙ in_below

column_is : (n k : ℕ) → k < n → position_or_len (nat_eq k) (range_with_len 0 n) ≡ k
column_is n k small =
    position_or_len_is (nat_eq k) (range_with_len 0 n) k 0 (omega (arith, small, length-range_with_len 0 n))
    (λ j less. let is : get_or (range_with_len 0 n) j 0 ≡ 0 + j = get_or-range_with_len 0 n j 0 (omega (arith, less, small)) in rw is (grind (arith, nat_tests, less)))
    (λ inside. let is : get_or (range_with_len 0 n) k 0 ≡ 0 + k = get_or-range_with_len 0 n k 0 small in rw is (grind (arith, nat_tests)))

value_is : (n k : ℕ) (t : Tuple) → k < n → value_of (range_with_len 0 n) t k ≡ value_at t k
value_is n k t small = ap (λ (j : ℕ). slice_index_or t j []) (column_is n k small)

tuple_is : (n : ℕ) (t : Tuple) → length t ≡ n → t ≡ tuple_of n (range_with_len 0 n) t
tuple_is n t size =
    let columns = range_with_len 0 n in
    let ms = members_below n (with_columns columns) in
    let count : length ms ≡ n =
    length-members_below n (with_columns columns) ∙ whole_count n (with_columns columns) (all_named n) n (omega arith) in
    let long : length (map (value_of columns t) ms) ≡ n = length-map ms (value_of columns t) ∙ count in
    ext_get_or [] t (map (value_of columns t) ms) (size ∙ sym long) (λ k less.
    let small : k < n = omega (arith, less, size) in
    let has : with_columns columns k ≡ true = named_range n k ∙ grind (arith, nat_tests, small) in
    let at : get_or ms k k ≡ k =
    ap (λ (j : ℕ). get_or ms j k) (sym (whole_count n (with_columns columns) (all_named n) k (omega (arith, small))))
    ∙ members_below-at n (with_columns columns) k k small has in
    let inside : k < length (map (value_of columns t) ms) = omega (arith, small, long) in
    sym (same_default (map (value_of columns t) ms) k [] (value_of columns t k) inside ∙ get_or-map (value_of columns t) ms k k ∙ ap (value_of columns t) at ∙ value_is n k t small))

row_is : (s : Schema) (row : ℕ) (t : Tuple) → length t ≡ width_of s → row ≤ MOST_ROWS
    → FitsEach (types_of s) (nullable_of s) t
    → ClosedRowOf s (range_with_len 0 (width_of s)) row t (Ok t)
row_is s row t size within_limit fits =
    let n = width_of s in (
      (size ∙ sym (length-range_with_len 0 n), within_limit),
      tuple_is n t size,
      λ k has column type.
          let small : k < n = grind (arith, nat_tests, sym (named_range n k) ∙ has) in
          subst (FitsColumn column (nullable_of s k)) (sym (value_is n k t small)) (fits k column type),
    )

pub printed_back : (s : Schema) (rows : Relation) → All IsName (names_of s)
    → IsOver (width_of s) rows → FitsColumns s rows → length rows ≤ MOST_ROWS
    → RowsOf s (rows_text (names_of s) rows) (Ok rows)
printed_back s rows named over fits within_limit =
    let n = width_of s in
    let names = names_of s in
    let columns = range_with_len 0 n in
    let wide : All (λ row. 0 < length row) rows = λ k d h. omega (arith, over k d h, s.valid.names_not_empty) in
    let records : records_of (rows_text names rows) ≡ names ∷ rows =
    printed_records names rows s.valid.names_not_empty named wide in
    let header : IsHeaderOf n names names (Ok columns) = (own_columns names s.valid.names_differ, all_named n) in
    let closed : open_record (rows_text names rows) ≡ None = printed_closed names rows s.valid.names_not_empty named in
    let first : AreFirstRows s columns None rows rows = record {
      within = omega arith;
      each =
          λ i less. row_is s (i + 1) (slice_index_or rows i []) (over i [] less) (omega (arith, less, within_limit)) (fits i [] less);
    } in
    subst (λ (rs : List (List (List ℕ))). TableOf s (IsHeaderOf n names) (open_record (rows_text names rows)) rs (Ok rows)) (sym records)
    (subst (λ (o : Option ℕ). TableOf s (IsHeaderOf n names) o (names ∷ rows) (Ok rows)) (sym closed) (Ok columns, header, (first, refl)))
