-- The columns of a header, field by field.
use Rattle.std.proofs.Common.{◌≡◌, ◌+◌, ◌<◌, ◌||◌, ◌==◌, ℕ, suc, Bool, true, false, if◌then◌else◌, nat_eq, List, [], ◌∷◌, ◌++◌, length, map, drop, Option, Some, None, Result, Ok, Err, slice_index_or, nat_lt, cond, refl, sym, ap, subst, ◌∙◌, arith}
use mathlib.Core.Path.{fun_ext}
use Rattle.std.specs.List.{position_or_len, position}
use Rattle.std.proofs.Math.Seq.{drop-cons}
use Rattle.std.proofs.lemmas.List.{map-append, append-nil, length-append}
use Rattle.std.proofs.lemmas.List.Folds.{list_any-append, list_any_at, list_any_none}
use Rattle.std.proofs.lemmas.List.Quantifiers.{position-Some}
use Rattle.std.proofs.lemmas.List.Sums.{position_or_len_is, fails_before_first}
use Rattle.attr_sets.proofs.AttributesLemmas.{count_below-none, count_below-union_only, same_at}
use Rattle.attr_sets.specs.Attributes.{Attributes, union, only, none, count_below}
use Rattle.dep_model.specs.Projections.{members_below}
use Rattle.schema_model.specs.Schemas.{attribute_named}
use Rattle.csv_rows.specs.declared.header.ColumnOfAttribute.{ColumnOfAttribute}
use Rattle.csv_rows.specs.declared.refusal.RowRefusal.{RowRefusal}
use Rattle.csv_rows.specs.declared.refusal.RowRefusal.TheVariants as refusal
use Rattle.csv_rows.specs.Columns.{with_columns, attribute_of_column, columns_of_header, columns_from, attribute_with_column, order_of, ◌>>=◌}

-- an attribute after others
pub named_after : (columns : List ℕ) (a : ℕ) → with_columns (columns ++ a ∷ []) ≡ union (with_columns columns) (only a)
named_after columns a = fun_ext (λ k. list_any-append (nat_eq k) columns (a ∷ []) ∙ ap (λ (b : Bool). with_columns columns k || b) (or_false (k == a)))
  where
    or_false : (b : Bool) → (b || false) ≡ b
    or_false true = refl
    or_false false = refl

-- a column looks at the members of a set alone
pub attribute_of_column-same : (column : ℕ) (x y : Attributes) (o : Option ℕ) → x ≡ y → attribute_of_column column x o ≡ attribute_of_column column y o
attribute_of_column-same column x y None e = refl
attribute_of_column-same column x y (Some a) e = ap (λ (b : Bool). if b then Err (refusal.DoubleColumn column) else Ok a) (same_at e a)

-- the fields from a position on are one and those after it
columns_step : (names : List (List ℕ)) (before : List ℕ) (fields : List (List ℕ)) (i : ℕ) → i < length fields
    → columns_from names before (drop i fields)
    ≡ (attribute_of_column (length before + 1) (with_columns before) (attribute_named names (slice_index_or fields i [])) >>= (λ a. columns_from names (before ++ a ∷ []) (drop (i + 1) fields)))
unfolding columns_from
columns_step names before fields i h =
    let next : suc i ≡ i + 1 = omega arith in
    ap (columns_from names before) (drop-cons fields i [] h)
    ∙ ap (λ (j : ℕ). attribute_of_column (length before + 1) (with_columns before) (attribute_named names (slice_index_or fields i [])) >>= (λ a. columns_from names (before ++ a ∷ []) (drop j fields))) next

pub columns_next : (names : List (List ℕ)) (before : List ℕ) (fields : List (List ℕ)) (i a : ℕ) (x : Attributes) → i < length fields → x ≡ with_columns before
    → attribute_of_column (length before + 1) x (attribute_named names (slice_index_or fields i [])) ≡ Ok a
    → columns_from names before (drop i fields) ≡ columns_from names (before ++ a ∷ []) (drop (i + 1) fields)
columns_next names before fields i a x h same e =
    columns_step names before fields i h
    ∙ ap (λ (r : Result ℕ RowRefusal). r >>= (λ b. columns_from names (before ++ b ∷ []) (drop (i + 1) fields))) (sym (attribute_of_column-same _ x (with_columns before) _ same) ∙ e)

pub columns_refused : (names : List (List ℕ)) (before : List ℕ) (fields : List (List ℕ)) (i : ℕ) (x : Attributes) (e : RowRefusal) → i < length fields → x ≡ with_columns before
    → attribute_of_column (length before + 1) x (attribute_named names (slice_index_or fields i [])) ≡ Err e
    → columns_from names before (drop i fields) ≡ Err e
columns_refused names before fields i x e h same r =
    columns_step names before fields i h
    ∙ ap (λ (r : Result ℕ RowRefusal). r >>= (λ b. columns_from names (before ++ b ∷ []) (drop (i + 1) fields))) (sym (attribute_of_column-same _ x (with_columns before) _ same) ∙ r)

pub columns_all : (names : List (List ℕ)) (before : List ℕ) (fields : List (List ℕ)) → columns_from names before (drop (length fields) fields) ≡ Ok before
unfolding columns_from
columns_all names before [] = refl
columns_all names before (f ∷ fs) = columns_all names before fs

-- an attribute that gets a column had none
pub was_unused : (column a : ℕ) (x : Attributes) (o : Option ℕ) → attribute_of_column column x o ≡ Ok a → x a ≡ false
was_unused column a x None e = cc
was_unused column a x (Some b) e = by (x b) refl e
  where
    by : (t : Bool) → x b ≡ t → (if t then Err (refusal.DoubleColumn column) else Ok b) ≡ Ok a → x a ≡ false
    by true f g = cc
    by false f g = let same : b ≡ a = cc in subst (λ (k : ℕ). x k ≡ false) same f

-- the attributes that have a column, up to one more
pub order_next : (n : ℕ) (columns : List ℕ) → order_of (n + 1) columns ≡ order_of n columns ++ (if with_columns columns n then attribute_with_column columns n ∷ [] else [])
unfolding members_below
order_next n columns =
    let next : n + 1 ≡ suc n = omega arith in
    ap (λ (m : ℕ). order_of m columns) next ∙ map-append (attribute_with_column columns) (members_below n (with_columns columns)) (if with_columns columns n then n ∷ [] else [])
    ∙ ap (λ (l : List ColumnOfAttribute). order_of n columns ++ l) (by (with_columns columns n))
  where
    by : (b : Bool) → map (attribute_with_column columns) (if b then n ∷ [] else []) ≡ (if b then attribute_with_column columns n ∷ [] else [])
    by true = refl
    by false = refl

-- an attribute has a column, and it is this one, or it has none
pub in_column : (columns : List ℕ) (a i : ℕ) → position (nat_eq a) columns ≡ Some i → (with_columns columns a ≡ true) × (position_or_len (nat_eq a) columns ≡ i)
in_column columns a i h =
    let (within, at, before) = position-Some (nat_eq a) columns i 0 h in
    (list_any_at (nat_eq a) columns i 0 within at, position_or_len_is (nat_eq a) columns i 0 (omega arith) before (λ l. at))

pub in_no_column : (columns : List ℕ) (a : ℕ) → position (nat_eq a) columns ≡ None → with_columns columns a ≡ false
in_no_column columns a h = by (nat_lt (position_or_len (nat_eq a) columns) (length columns)) refl h
  where
    by : (b : Bool) → nat_lt (position_or_len (nat_eq a) columns) (length columns) ≡ b → cond b (Some (position_or_len (nat_eq a) columns)) None ≡ None → with_columns columns a ≡ false
    by true e g = cc
    by false e g = list_any_none (nat_eq a) columns (λ k d l. fails_before_first (nat_eq a) columns k d (grind arith))

pub order_more : (n i : ℕ) (columns : List ℕ) (order : List ColumnOfAttribute) → order ≡ order_of n columns → position (nat_eq n) columns ≡ Some i
    → order ++ record { attribute = n; column = i } ∷ [] ≡ order_of (n + 1) columns
order_more n i columns order e h =
    let (has, at) = in_column columns n i h in
    let step : order_of (n + 1) columns ≡ order_of n columns ++ attribute_with_column columns n ∷ [] =
    order_next n columns ∙ ap (λ (b : Bool). order_of n columns ++ (if b then attribute_with_column columns n ∷ [] else [])) has in
    ap (λ (l : List ColumnOfAttribute). l ++ record { attribute = n; column = i } ∷ []) e
    ∙ ap (λ (j : ℕ). order_of n columns ++ record { attribute = n; column = j } ∷ []) (sym at) ∙ sym step

pub order_same : (n : ℕ) (columns : List ℕ) (order : List ColumnOfAttribute) → order ≡ order_of n columns → position (nat_eq n) columns ≡ None → order ≡ order_of (n + 1) columns
order_same n columns order e h =
    e ∙ sym (append-nil _) ∙ sym (order_next n columns ∙ ap (λ (b : Bool). order_of n columns ++ (if b then attribute_with_column columns n ∷ [] else [])) (in_no_column columns n h))

-- a header of which some fields are read: their columns, the set of these, and what the rest gives
pub record ReadsColumns (names : List (List ℕ)) (fields : List (List ℕ)) (i : ℕ) (columns : List ℕ) (x : Attributes) : Type 0 where
  pub same : x ≡ with_columns columns
  pub count : length columns ≡ count_below x 128
  pub reads : columns_of_header names fields ≡ columns_from names columns (drop i fields)

pub no_columns : (names fields : List (List ℕ)) (columns : List ℕ) (x : Attributes) → columns ≡ [] → x ≡ none → ReadsColumns names fields 0 columns x
no_columns names fields columns x e same = subst (λ (l : List ℕ). ReadsColumns names fields 0 l x) (sym e) (record {
  same = same;
  count = sym (count_below-none 128 x (λ k h. same_at same k));
  reads = refl;
})

-- what the next field gives, as the code looks at it
column_at : (names : List (List ℕ)) (fields : List (List ℕ)) (i n : ℕ) (columns field : List ℕ) (x : Attributes) (r : Result ℕ RowRefusal)
    → n ≡ length columns → field ≡ slice_index_or fields i [] → r ≡ attribute_of_column (n + 1) x (attribute_named names field)
    → attribute_of_column (length columns + 1) x (attribute_named names (slice_index_or fields i [])) ≡ r
column_at names fields i n columns field x r count is e = rw (← count, ← is) (sym e)

pub one_column : (names fields : List (List ℕ)) (i n : ℕ) (columns field : List ℕ) (x y : Attributes) (a : ℕ) → ReadsColumns names fields i columns x → i < length fields → a < 128
    → n ≡ length columns → field ≡ slice_index_or fields i [] → Ok a ≡ attribute_of_column (n + 1) x (attribute_named names field) → y ≡ union x (only a)
    → ReadsColumns names fields (i + 1) (columns ++ a ∷ []) y
one_column names fields i n columns field x y a r h small count is e more =
    let given = column_at names fields i n columns field x (Ok a) count is e in
    record {
      same = more ∙ ap (λ (z : Attributes). union z (only a)) r.same ∙ sym (named_after columns a);
      count = length-append columns (a ∷ []) ∙ ap (λ (m : ℕ). m + 1) r.count ∙ sym (count_below-union_only 128 x a small (was_unused _ a x _ given)) ∙ sym (ap (λ (z : Attributes). count_below z 128) more);
      reads = r.reads ∙ columns_next names columns fields i a x h r.same given;
    }

pub refused_column : (names fields : List (List ℕ)) (i n : ℕ) (columns field : List ℕ) (x : Attributes) (e : RowRefusal) → ReadsColumns names fields i columns x → i < length fields
    → n ≡ length columns → field ≡ slice_index_or fields i [] → Err e ≡ attribute_of_column (n + 1) x (attribute_named names field)
    → columns_of_header names fields ≡ Err e
refused_column names fields i n columns field x e r h count is given =
    r.reads ∙ columns_refused names columns fields i x e h r.same (column_at names fields i n columns field x (Err e) count is given)

pub all_read : (names fields : List (List ℕ)) (i : ℕ) (columns : List ℕ) (x : Attributes) → ReadsColumns names fields i columns x → i ≡ length fields → columns_of_header names fields ≡ Ok columns
all_read names fields i columns x r e = r.reads ∙ ap (λ (j : ℕ). columns_from names columns (drop j fields)) e ∙ columns_all names columns fields
