-- What a header and the records below it give, field by field and record by record.
use Rattle.std.proofs.Common.{inl, inr, ◌≡◌, ◌+◌, ◌<◌, ◌≤◌, ℕ, Bool, true, false, if◌then◌else◌, not, ◌&&◌, nat_lt, nat_eq, List, [], ◌∷◌, ◌++◌, length, map, take, Option, Some, None, Result, Ok, Err, IfOk, IfErr, slice_index_or, get_or, add-one, refl, sym, ap, subst, ◌∙◌, arith}
use Rattle.std.specs.Borrow.{Bor}
use Rattle.std.specs.List.{slice_get, position_or_len}
use Rattle.std.proofs.Math.ListN.{get_or-map}
use Rattle.std.proofs.Math.Seq.{take-suc, get_or-append_seam}
use Rattle.std.proofs.lemmas.Bool.{cases_lt}
use Rattle.std.proofs.lemmas.List.{append-nil, length-append, length-map, map-append, take_all, append_assoc, get_or_append_left}
use Rattle.std.proofs.lemmas.Option.{slice_get_within}
use Rattle.attr_sets.specs.Attributes.{Attributes, IsSubset, IsEmpty, below, difference, IsFirstFrom, count_below}
use Rattle.attr_sets.proofs.AttributesLemmas.{count_below-before_member, count_below-equal, count_below-below, same_at}
use Rattle.csv.specs.declared.reader.Reader.{Reader}
use Rattle.dep_model.specs.Failures.{RefusesAs}
use Rattle.dep_model.specs.declared.failure.Failure.{Failure}
use Rattle.dep_model.specs.declared.failure.Failure.TheVariants.{Refused, OutOfMemory}
use Rattle.dep_model.proofs.FailureLemmas.{refuses_also}
use Rattle.dep_model.specs.Projections.{members_below}
use Rattle.schema_model.specs.Schemas.{names_of, width_of, attribute_named, types_of, nullable_of}
use Rattle.dep_model.specs.Tuples.{Tuple, Relation, IsOver, value_at}
use Rattle.schema_model.specs.declared.column_type.ColumnType.{ColumnType}
use Rattle.column_values.specs.Values.{FitsColumn, FitsColumns, FitsEach}
use Rattle.schema_model.specs.Schemas.{Schema}
use Rattle.dep_model.proofs.SchemeLemmas.{length-members_below, members_below-at}
use Rattle.attr_sets.specs.Sets.{attributes}
use Rattle.attr_sets.specs.declared.set.TheConstants.{MOST_ATTRIBUTES}
use Rattle.dep_model.proofs.ListLemmas.{same_default}
use Rattle.csv_rows.specs.declared.header.Header.{Header}
use Rattle.csv_rows.specs.declared.header.ColumnOfAttribute.{ColumnOfAttribute}
use Rattle.csv_rows.specs.declared.refusal.RowRefusal.{RowRefusal}
use Rattle.csv_rows.specs.declared.refusal.RowRefusal.TheVariants as refusal
use Rattle.csv_rows.specs.Records.{HasLeft, TakesRecord, records_of}
use Rattle.csv_rows.specs.Columns.{with_columns, attribute_with_column, order_of, attribute_of_column, columns_from, columns_of_header, ◌>>=◌, IsHeader, IsHeaderOf}
use Rattle.csv_rows.specs.Quotes.{open_record, is_open}
use Rattle.csv_rows.specs.Reading.{value_of, FitsAt, ClosedRowOf, RowOf, HeaderOf, RowAt, AreFirstRows, RowsUnder, TableOf, RowsOf, PartOf, ReadsHeader, RefusesHeader}
use Rattle.dep_model.proofs.SchemeLemmas.{member_at}

-- the first record is the header
pub header_read : (s : Schema) (unclosed : Option ℕ) (old new : Reader (Bor (List ℕ))) (fields : List (List ℕ)) (b : Bool) (r : Result Header (Failure RowRefusal)) (rs : List (List (List ℕ)))
    → is_open unclosed 1 ≡ false → b ≡ true → TakesRecord b old new fields → HasLeft old rs
    → IfOk r (λ h. (columns : List ℕ) × (columns_of_header (names_of s) fields ≡ Ok columns) × IsHeader (width_of s) columns h)
    → IfOk r (λ h. ReadsHeader s unclosed rs new h)
header_read s unclosed old new fields b (Err e) rs closed is takes left means = tt
header_read s unclosed old new fields b (Ok h) rs closed is takes left means =
    let takes : TakesRecord true old new fields = subst (λ (t : Bool). TakesRecord t old new fields) is takes in
    let (more, all, rest) = takes rs left in
    record { fields = fields; records = more; all = all; closed = closed; columns = means.0; means = means.1; kept = means.2; left = rest }

pub header_refused : (names : List (List ℕ)) (unclosed : Option ℕ) (old new : Reader (Bor (List ℕ))) (fields : List (List ℕ)) (b : Bool) (r : Result Header (Failure RowRefusal)) (rs : List (List (List ℕ)))
    → is_open unclosed 1 ≡ false → b ≡ true → TakesRecord b old new fields → HasLeft old rs
    → IfErr r (RefusesAs (λ e. columns_of_header names fields ≡ Err e)) → IfErr r (RefusesAs (RefusesHeader names unclosed rs))
header_refused names unclosed old new fields b (Ok h) rs closed is takes left means = tt
header_refused names unclosed old new fields b (Err OutOfMemory) rs closed is takes left means = tt
header_refused names unclosed old new fields b (Err (Refused e)) rs closed is takes left means =
    let takes : TakesRecord true old new fields = subst (λ (t : Bool). TakesRecord t old new fields) is takes in
    let (more, all, rest) = takes rs left in
    subst (λ (l : List (List (List ℕ))). RefusesHeader names unclosed l e) (sym all) (rw closed means)

pub open_header : (names : List (List ℕ)) (unclosed : Option ℕ) (old new : Reader (Bor (List ℕ))) (fields : List (List ℕ)) (b : Bool) (rs : List (List (List ℕ)))
    → is_open unclosed 1 ≡ true → b ≡ true → TakesRecord b old new fields → HasLeft old rs → RefusesHeader names unclosed rs refusal.OpenHeader
open_header names unclosed old new fields b rs unclosed_is is takes left =
    let takes : TakesRecord true old new fields = subst (λ (t : Bool). TakesRecord t old new fields) is takes in
    let (more, all, rest) = takes rs left in
    subst (λ (l : List (List (List ℕ))). RefusesHeader names unclosed l refusal.OpenHeader) (sym all) (rw unclosed_is refl)

pub no_header : (names : List (List ℕ)) (unclosed : Option ℕ) (old new : Reader (Bor (List ℕ))) (fields : List (List ℕ)) (b : Bool) (rs : List (List (List ℕ)))
    → b ≡ false → TakesRecord b old new fields → HasLeft old rs → RefusesHeader names unclosed rs refusal.NoHeader
no_header names unclosed old new fields b rs is takes left =
    let takes : TakesRecord false old new fields = subst (λ (t : Bool). TakesRecord t old new fields) is takes in
    subst (λ (l : List (List (List ℕ))). RefusesHeader names unclosed l refusal.NoHeader) (sym (takes rs left)) refl

-- no field of a header says of a missing column
never_missing : (names : List (List ℕ)) (before : List ℕ) (fields : List (List ℕ)) (a : ℕ) → columns_from names before fields ≡ Err (refusal.MissingColumn a) → ⊥
unfolding columns_from
never_missing names before [] a h = cc
never_missing names before (f ∷ fs) a h = by (attribute_named names f) h (λ (b : ℕ) g. never_missing names (before ++ b ∷ []) fs a g)
  where
    tested : (t : Bool) (b : ℕ) → ((if t then Err (refusal.DoubleColumn (length before + 1)) else Ok b) >>= (λ c. columns_from names (before ++ c ∷ []) fs)) ≡ Err (refusal.MissingColumn a)
        → (columns_from names (before ++ b ∷ []) fs ≡ Err (refusal.MissingColumn a) → ⊥) → ⊥
    tested true b g later = cc
    tested false b g later = later g

    by : (o : Option ℕ) → (attribute_of_column (length before + 1) (with_columns before) o >>= (λ c. columns_from names (before ++ c ∷ []) fs)) ≡ Err (refusal.MissingColumn a)
        → ((b : ℕ) → columns_from names (before ++ b ∷ []) fs ≡ Err (refusal.MissingColumn a) → ⊥) → ⊥
    by None g later = cc
    by (Some b) g later = tested (with_columns before b) b g (later b)

-- a header that is refused is so in either reading
pub refused_whole : (s : Schema) (unclosed : Option ℕ) (rs : List (List (List ℕ))) (e : RowRefusal) → RefusesHeader (names_of s) unclosed rs e
    → TableOf s (IsHeaderOf (width_of s) (names_of s)) unclosed rs (Err e)
refused_whole s unclosed [] e h = ap Err h
refused_whole s unclosed (header ∷ records) e h = (Err e, under (is_open unclosed 1) h, refl)
  where
    under : (b : Bool) → HeaderOf b (λ columns. columns_of_header (names_of s) header ≡ columns) (Err e)
        → HeaderOf b (IsHeaderOf (width_of s) (names_of s) header) (Err e)
    under true g = g
    under false g = whole e g
      where
        whole : (e : RowRefusal) → columns_of_header (names_of s) header ≡ Err e → IsHeaderOf (width_of s) (names_of s) header (Err e)
        whole (refusal.MissingColumn a) h = absurd (never_missing (names_of s) [] header a h)
        whole refusal.NoHeader h = h
        whole (refusal.UnknownColumn c) h = h
        whole (refusal.DoubleColumn c) h = h
        whole (refusal.UnevenRow r) h = h
        whole refusal.TooManyRows h = h
        whole (refusal.NotOfType r a) h = h
        whole refusal.OpenHeader h = h
        whole (refusal.OpenRow r) h = h

pub refused_part : (s : Schema) (unclosed : Option ℕ) (rs : List (List (List ℕ))) (e : RowRefusal) → RefusesHeader (names_of s) unclosed rs e
    → TableOf s (λ header columns. columns ≡ columns_of_header (names_of s) header) unclosed rs (Err e)
refused_part s unclosed [] e h = ap Err h
refused_part s unclosed (header ∷ records) e h = (Err e, under (is_open unclosed 1) h, refl)
  where
    under : (b : Bool) → HeaderOf b (λ columns. columns_of_header (names_of s) header ≡ columns) (Err e)
        → HeaderOf b (λ columns. columns ≡ columns_of_header (names_of s) header) (Err e)
    under true g = g
    under false g = sym g

-- a header without an open quote
closed_header : (b : Bool) (Means : Result (List ℕ) RowRefusal → Type 0) (columns : Result (List ℕ) RowRefusal) → b ≡ false
    → Means columns → HeaderOf b Means columns
closed_header b Means columns closed means =
    subst (λ (t : Bool). HeaderOf t Means columns) (sym closed) means

-- a header without a column for each attribute
pub refused_missing : (s : Schema) (unclosed : Option ℕ) (rs : List (List (List ℕ))) (reader : Reader (Bor (List ℕ))) (h : Header) (x : Attributes) (a : ℕ)
    → ReadsHeader s unclosed rs reader h → x ≡ difference (below (width_of s)) (attributes h.scheme) → IsFirstFrom x 0 a
    → TableOf s (IsHeaderOf (width_of s) (names_of s)) unclosed rs (Err (refusal.MissingColumn a))
refused_missing s unclosed rs reader h x a read same least =
    let all : x ≡ difference (below (width_of s)) (with_columns read.columns) = same ∙ ap (λ (z : Attributes). difference (below (width_of s)) z) read.kept.scheme in
    let moved : IsFirstFrom (difference (below (width_of s)) (with_columns read.columns)) 0 a = record {
      from_on = least.from_on;
      member = sym (same_at all a) ∙ least.member;
      least = λ k f l. sym (same_at all k) ∙ least.least k f l;
    } in
    subst (λ (l : List (List (List ℕ))). TableOf s (IsHeaderOf (width_of s) (names_of s)) unclosed l (Err (refusal.MissingColumn a))) (sym read.all)
    (Err (refusal.MissingColumn a), closed_header _ (IsHeaderOf (width_of s) (names_of s) read.fields) _ read.closed (read.columns, read.means, moved), refl)

-- the rows under a header with a column for each attribute
pub whole_rows : (s : Schema) (unclosed : Option ℕ) (rs : List (List (List ℕ))) (reader : Reader (Bor (List ℕ))) (h : Header) (x : Attributes) (result : Result Relation RowRefusal)
    → (read : ReadsHeader s unclosed rs reader h) → x ≡ difference (below (width_of s)) (attributes h.scheme) → IsEmpty x → RowsUnder s (Ok read.columns) unclosed read.records result
    → TableOf s (IsHeaderOf (width_of s) (names_of s)) unclosed rs result
whole_rows s unclosed rs reader h x result read same empty rows =
    let within : IsSubset (below (width_of s)) (with_columns read.columns) = λ k has. inside k has (sym (same_at read.kept.scheme k)) (sym (same_at same k) ∙ empty k) in
    subst (λ (l : List (List (List ℕ))). TableOf s (IsHeaderOf (width_of s) (names_of s)) unclosed l result) (sym read.all)
    (Ok read.columns, closed_header _ (IsHeaderOf (width_of s) (names_of s) read.fields) _ read.closed (read.means, within), rows)
  where
    inside : (k : ℕ) → nat_lt k (width_of s) ≡ true → {b : Bool} → b ≡ attributes h.scheme k → (nat_lt k (width_of s) && not (attributes h.scheme k)) ≡ false → b ≡ true
    inside k has {b} e none = e ∙ by (attributes h.scheme k) (ap (λ (t : Bool). t && not (attributes h.scheme k)) (sym has) ∙ none)
      where
        by : (t : Bool) → (true && not t) ≡ false → t ≡ true
        by true f = refl
        by false f = cc

pub part_rows : (s : Schema) (unclosed : Option ℕ) (rs : List (List (List ℕ))) (reader : Reader (Bor (List ℕ))) (h : Header) (result : Result Relation RowRefusal)
    → (read : ReadsHeader s unclosed rs reader h) → RowsUnder s (Ok read.columns) unclosed read.records result
    → TableOf s (λ header columns. columns ≡ columns_of_header (names_of s) header) unclosed rs result
part_rows s unclosed rs reader h result read rows =
    subst (λ (l : List (List (List ℕ))). TableOf s (λ header columns. columns ≡ columns_of_header (names_of s) header) unclosed l result) (sym read.all)
    (Ok read.columns, closed_header _ (λ columns. columns ≡ columns_of_header (names_of s) read.fields) _ read.closed (sym read.means), rows)

-- an entry of the order of a header
pub record IsColumnOfAttribute (n : ℕ) (columns : List ℕ) (i : ℕ) (p : ColumnOfAttribute) : Type 0 where
  pub small : p.attribute < n
  pub has : with_columns columns p.attribute ≡ true
  pub column : p.column ≡ position_or_len (nat_eq p.attribute) columns
  pub before : i ≡ count_below (with_columns columns) p.attribute
  pub at : i < length (members_below n (with_columns columns))
  pub is : get_or (members_below n (with_columns columns)) i p.attribute ≡ p.attribute

entry_at : (n : ℕ) (columns : List ℕ) (h : Header) (i : ℕ) (p : ColumnOfAttribute) → IsHeader n columns h → i < length h.order.items → p ≡ get_or h.order.items i p → IsColumnOfAttribute n columns i p
entry_at n columns h i p kept l e =
    let size : length h.order.items ≡ length (members_below n (with_columns columns)) = ap length kept.order ∙ length-map (members_below n (with_columns columns)) (attribute_with_column columns) in
    let at : i < length (members_below n (with_columns columns)) = omega (arith, l, size) in
    let a : ℕ = get_or (members_below n (with_columns columns)) i p.attribute in
    let same : p ≡ attribute_with_column columns a =
    e ∙ ap (λ (o : List ColumnOfAttribute). get_or o i p) kept.order ∙ same_default (order_of n columns) i p (attribute_with_column columns p.attribute) (omega (arith, l, ap length kept.order))
    ∙ get_or-map (attribute_with_column columns) (members_below n (with_columns columns)) i p.attribute in
    let attribute : p.attribute ≡ a = ap (λ (q : ColumnOfAttribute). q.attribute) same in
    let m = member_at n (with_columns columns) i p.attribute at attribute in
    record {
      small = m.0;
      has = m.1;
      column = ap (λ (q : ColumnOfAttribute). q.column) same ∙ ap (λ (b : ℕ). position_or_len (nat_eq b) columns) (sym attribute);
      before = m.2;
      at = at;
      is = sym attribute;
    }

pub entry_in : (n : ℕ) (columns : List ℕ) (h : Header) (items : List ColumnOfAttribute) (i : ℕ) (d : ColumnOfAttribute) → IsHeader n columns h → items ≡ h.order.items → i < length items
    → IsColumnOfAttribute n columns i (get_or items i d)
entry_in n columns h items i d kept e l =
    let within : i < length h.order.items = omega (arith, l, ap length e) in
    entry_at n columns h i (get_or items i d) kept within (ap (λ (o : List ColumnOfAttribute). get_or o i d) e ∙ same_default h.order.items i d (get_or items i d) within)

-- its attribute is one of a schema's
pub small_attribute : (s : Schema) (columns : List ℕ) (i : ℕ) (p : ColumnOfAttribute) → IsColumnOfAttribute (width_of s) columns i p
    → p.attribute < MOST_ATTRIBUTES
small_attribute s columns i p at = omega (arith, at.small, s.valid.names_within_limit)

-- the values of the first attributes that have a column
pub record Takes (s : Schema) (columns : List ℕ) (fields : List (List ℕ)) (i : ℕ) (values : List (List ℕ)) : Type 0 where
  pub so_far : values ≡ map (value_of columns fields) (take i (members_below (width_of s) (with_columns columns)))
  pub fits : (b : ℕ) → with_columns columns b ≡ true → count_below (with_columns columns) b < i → FitsAt s columns fields b

pub takes_none : (s : Schema) (columns : List ℕ) (fields values : List (List ℕ)) → values ≡ [] → Takes s columns fields 0 values
takes_none s columns fields values e = record { so_far = e; fits = λ b h l. absurd (omega (arith, l)) }

-- two attributes with columns that have as many before them are one
pub same_count : (x : Attributes) (a b : ℕ) → x a ≡ true → x b ≡ true → count_below x a ≡ count_below x b → a ≡ b
same_count x a b ha hb e = elim (cases_lt a b) [
  | inl less ↦ absurd (omega (arith, count_below-before_member b a x less ha, e))
  | inr other ↦ elim (cases_lt b a) [
    | inl more ↦ absurd (omega (arith, count_below-before_member a b x more hb, e))
    | inr same ↦ omega (arith, other, same)
  ]
]

some_same : (o : Option ColumnType) (c d : ColumnType) → o ≡ Some c → o ≡ Some d → c ≡ d
some_same o c d e f = let same : Some c ≡ Some d = sym e ∙ f in cc

-- the value at hand fits its column
fits_at : (s : Schema) (columns : List ℕ) (fields : List (List ℕ)) (a : ℕ) (value : List ℕ) (column : ColumnType) (nullable : Bool) → value ≡ value_of columns fields a
    → slice_get (types_of s) a ≡ Some column → nullable ≡ nullable_of s a → FitsColumn column nullable value → FitsAt s columns fields a
fits_at s columns fields a value column nullable is type may fits other also =
    subst (λ (c : ColumnType). FitsColumn c (nullable_of s a) (value_of columns fields a)) (some_same _ column other type also)
    (subst (λ (n : Bool). FitsColumn column n (value_of columns fields a)) may (subst (FitsColumn column nullable) is fits))

pub takes_one : (s : Schema) (columns : List ℕ) (fields values : List (List ℕ)) (i : ℕ) (p : ColumnOfAttribute) (value : List ℕ) (column : ColumnType) (nullable : Bool)
    → Takes s columns fields i values → IsColumnOfAttribute (width_of s) columns i p → value ≡ slice_index_or fields p.column []
    → slice_get (types_of s) p.attribute ≡ Some column → nullable ≡ nullable_of s p.attribute → FitsColumn column nullable value
    → Takes s columns fields (i + 1) (values ++ value ∷ [])
takes_one s columns fields values i p value column nullable takes at is type may fits =
    let ms = members_below (width_of s) (with_columns columns) in
    let here : value ≡ value_of columns fields p.attribute = is ∙ ap (λ (j : ℕ). slice_index_or fields j []) at.column in
    let next : take (i + 1) ms ≡ take i ms ++ p.attribute ∷ [] =
    rw add-one (take-suc ms i p.attribute at.at ∙ ap (λ (a : ℕ). take i ms ++ a ∷ []) at.is) in
    record {
      so_far = ap (λ (l : List (List ℕ)). l ++ value ∷ []) takes.so_far ∙ ap (λ (v : List ℕ). map (value_of columns fields) (take i ms) ++ v ∷ []) here
          ∙ sym (ap (map (value_of columns fields)) next ∙ map-append (value_of columns fields) (take i ms) (p.attribute ∷ []));
      fits = λ b h l. elim (cases_lt (count_below (with_columns columns) b) i) [
        | inl before ↦ takes.fits b h before
        | inr last ↦
            let same : b ≡ p.attribute = same_count (with_columns columns) b p.attribute h at.has (omega (arith, l, last, at.before)) in
            subst (FitsAt s columns fields) (sym same) (fits_at s columns fields p.attribute value column nullable here type may fits)
      ];
    }

-- all values are taken
pub takes_all : (s : Schema) (columns : List ℕ) (fields values : List (List ℕ)) (h : Header) (i row : ℕ) → IsHeader (width_of s) columns h → Takes s columns fields i values → i ≡ length h.order.items
    → length fields ≡ h.columns → row ≤ 10000000 → ClosedRowOf s columns row fields (Ok values)
takes_all s columns fields values h i row kept takes end even within_limit =
    let ms = members_below (width_of s) (with_columns columns) in
    let size : length h.order.items ≡ length ms = ap length kept.order ∙ length-map ms (attribute_with_column columns) in
    let all : take i ms ≡ ms = take_all i ms (omega (arith, end, size)) in (
      (even ∙ kept.count, within_limit),
      takes.so_far ∙ ap (map (value_of columns fields)) all,
      λ a has column type.
          let small : a < width_of s = omega (arith, slice_get_within (types_of s) a column type, s.typed.one_each) in
          takes.fits a has (omega (arith, count_below-before_member (width_of s) a (with_columns columns) small has, length-members_below (width_of s) (with_columns columns), end, size)) column type,
    )

-- the value at hand is refused
pub not_of_type : (s : Schema) (columns : List ℕ) (fields values : List (List ℕ)) (h : Header) (i row : ℕ) (p : ColumnOfAttribute) (value : List ℕ) (column : ColumnType) (nullable : Bool)
    → IsHeader (width_of s) columns h → Takes s columns fields i values → IsColumnOfAttribute (width_of s) columns i p → value ≡ slice_index_or fields p.column []
    → slice_get (types_of s) p.attribute ≡ Some column → nullable ≡ nullable_of s p.attribute → (FitsColumn column nullable value → ⊥)
    → length fields ≡ h.columns → row ≤ 10000000 → ClosedRowOf s columns row fields (Err (refusal.NotOfType row p.attribute))
not_of_type s columns fields values h i row p value column nullable kept takes at is type may breaks even within_limit =
    let here : value ≡ value_of columns fields p.attribute = is ∙ ap (λ (j : ℕ). slice_index_or fields j []) at.column in (
      (even ∙ kept.count, within_limit),
      refl,
      at.has,
      (λ t. breaks (subst (FitsColumn column nullable) (sym here) (subst (λ (n : Bool). FitsColumn column n (value_of columns fields p.attribute)) (sym may) (t column type)))),
      λ b less has. takes.fits b has (omega (arith, count_below-before_member p.attribute b (with_columns columns) less has, at.before)),
    )

-- records of which some were taken, each giving a row
pub record Progress (s : Schema) (columns : List ℕ) (unclosed : Option ℕ) (rs : List (List (List ℕ))) (reader : Reader (Bor (List ℕ))) (rows : Relation) : Type 0 where
  pub taken : List (List (List ℕ))
  pub rest : List (List (List ℕ))
  pub all : rs ≡ taken ++ rest
  pub as_many : length taken ≡ length rows
  pub left : HasLeft reader rest
  pub first : AreFirstRows s columns unclosed rs rows

-- the record that was taken stands at the next position
next_at : (rs taken more : List (List (List ℕ))) (fields : List (List ℕ)) (n : ℕ) → rs ≡ taken ++ fields ∷ more → length taken ≡ n
    → (n < length rs) × (slice_index_or rs n [] ≡ fields)
next_at rs taken more fields n e size =
    (omega (arith, ap length e ∙ length-append taken (fields ∷ more), size), ap (λ (l : List (List (List ℕ))). slice_index_or l n []) e ∙ ap (λ (j : ℕ). slice_index_or (taken ++ fields ∷ more) j []) (sym size) ∙ get_or-append_seam taken fields more [])

pub progress_one : (s : Schema) (columns : List ℕ) (unclosed : Option ℕ) (rs : List (List (List ℕ))) (old new : Reader (Bor (List ℕ))) (b o : Bool) (fields : List (List ℕ)) (rows : Relation) (n : ℕ) (t : Tuple)
    → Progress s columns unclosed rs old rows → b ≡ true → TakesRecord b old new fields → n ≡ length rows
    → o ≡ is_open unclosed (n + 2) → RowOf s columns o (n + 1) fields (Ok t)
    → Progress s columns unclosed rs new (rows ++ t ∷ [])
progress_one s columns unclosed rs old new b o fields rows n t p is takes count opens row =
    let takes : TakesRecord true old new fields = subst (λ (t : Bool). TakesRecord t old new fields) is takes in
    let (more, rest, left) = takes p.rest p.left in
    let all : rs ≡ p.taken ++ fields ∷ more = p.all ∙ ap (λ (l : List (List (List ℕ))). p.taken ++ l) rest in
    let (within, at) = next_at rs p.taken more fields (length rows) all p.as_many in
    record {
      taken = p.taken ++ fields ∷ [];
      rest = more;
      all = all ∙ sym (append_assoc p.taken (fields ∷ []) more);
      as_many = length-append p.taken (fields ∷ []) ∙ ap (λ (m : ℕ). m + 1) p.as_many ∙ sym (length-append rows (t ∷ []));
      left = left;
      first = record {
        within = omega (arith, length-append rows (t ∷ []), within);
        each = λ i l. elim (cases_lt i (length rows)) [
          | inl front ↦ subst (λ (u : Tuple). RowAt s columns unclosed rs i (Ok u)) (sym (get_or_append_left rows (t ∷ []) [] i front)) (p.first.each i front)
          | inr last ↦
              let here : length rows ≡ i = omega (arith, l, last, length-append rows (t ∷ [])) in
              subst (λ (j : ℕ). RowAt s columns unclosed rs j (Ok (slice_index_or (rows ++ t ∷ []) j []))) here
              (rw (get_or-append_seam rows t [] [], at, ← count, ← opens) row)
        ];
      };
    }

pub rows_read : (s : Schema) (columns : List ℕ) (unclosed : Option ℕ) (rs : List (List (List ℕ))) (old new : Reader (Bor (List ℕ))) (b : Bool) (fields : List (List ℕ)) (rows : Relation)
    → Progress s columns unclosed rs old rows → b ≡ false → TakesRecord b old new fields → RowsUnder s (Ok columns) unclosed rs (Ok rows)
rows_read s columns unclosed rs old new b fields rows p is takes =
    let takes : TakesRecord false old new fields = subst (λ (t : Bool). TakesRecord t old new fields) is takes in
    let none = takes p.rest p.left in
    (p.first, sym p.as_many ∙ ap length (sym (append-nil p.taken) ∙ ap (λ (l : List (List (List ℕ))). p.taken ++ l) (sym none) ∙ sym p.all))

pub row_refused : (s : Schema) (columns : List ℕ) (unclosed : Option ℕ) (rs : List (List (List ℕ))) (old new : Reader (Bor (List ℕ))) (b o : Bool) (fields : List (List ℕ)) (rows : Relation) (n : ℕ) (e : RowRefusal)
    → Progress s columns unclosed rs old rows → b ≡ true → TakesRecord b old new fields → n ≡ length rows
    → o ≡ is_open unclosed (n + 2) → RowOf s columns o (n + 1) fields (Err e)
    → RowsUnder s (Ok columns) unclosed rs (Err e)
row_refused s columns unclosed rs old new b o fields rows n e p is takes count opens row =
    let takes : TakesRecord true old new fields = subst (λ (t : Bool). TakesRecord t old new fields) is takes in
    let (more, rest, left) = takes p.rest p.left in
    let all : rs ≡ p.taken ++ fields ∷ more = p.all ∙ ap (λ (l : List (List (List ℕ))). p.taken ++ l) rest in
    let (within, at) = next_at rs p.taken more fields (length rows) all p.as_many in
    let here : RowAt s columns unclosed rs (length rows) (Err e) =
    subst (λ (f : List (List ℕ)). RowOf s columns (is_open unclosed (length rows + 2)) (length rows + 1) f (Err e)) (sym at)
    (subst (λ (m : ℕ). RowOf s columns (is_open unclosed (m + 2)) (m + 1) fields (Err e)) count
    (subst (λ (t : Bool). RowOf s columns t (n + 1) fields (Err e)) opens row)) in
    (rows, p.first, within, here)

-- the rows of a text, whose open record was found
pub rows_of_text : (s : Schema) (text : List ℕ) (unclosed : Option ℕ) (r : Result Relation RowRefusal) → unclosed ≡ open_record text
    → TableOf s (IsHeaderOf (width_of s) (names_of s)) unclosed (records_of text) r → RowsOf s text r
rows_of_text s text unclosed r same rows =
    subst (λ (o : Option ℕ). TableOf s (IsHeaderOf (width_of s) (names_of s)) o (records_of text) r) same rows

pub part_of_text : (s : Schema) (text : List ℕ) (unclosed : Option ℕ) (r : Result Relation RowRefusal) → unclosed ≡ open_record text
    → TableOf s (λ header columns. columns ≡ columns_of_header (names_of s) header) unclosed (records_of text) r → PartOf s text r
part_of_text s text unclosed r same rows =
    subst (λ (o : Option ℕ). TableOf s (λ header columns. columns ≡ columns_of_header (names_of s) header) o (records_of text) r) same rows

-- the attributes without a column, as the sets of the code have them
pub without_column-same : (n m : ℕ) (full scheme x : Attributes) → n ≡ m → full ≡ below n → x ≡ difference full scheme → x ≡ difference (below m) scheme
without_column-same n m full scheme x e whole rest = rest ∙ ap (λ (z : Attributes). difference z scheme) (whole ∙ ap below e)

pub on_ok : {T E : Type 0} (P Q : T → Type 0) (r : Result T E) → ((v : T) → P v → Q v) → IfOk r P → IfOk r Q
on_ok P Q (Ok v) f h = f v h
on_ok P Q (Err e) f h = tt

pub on_err : {T R : Type 0} (P Q : R → Type 0) (r : Result T (Failure R)) → ((e : R) → P e → Q e) → IfErr r (RefusesAs P)
    → IfErr r (RefusesAs Q)
on_err P Q (Ok v) f h = tt
on_err P Q (Err e) f h = refuses_also P Q e f h

-- the members of a set that has all attributes below n
pub whole_count : (n : ℕ) (x : Attributes) → IsSubset (below n) x → (k : ℕ) → k ≤ n → count_below x k ≡ k
whole_count n x within k l =
    count_below-equal k x (below k) (λ j m. within j (grind (arith, l, m)) ∙ sym (grind (arith, m))) ∙ count_below-below k k (omega arith)

-- a row of a text in which each attribute has a column
row_whole : (s : Schema) (columns : List ℕ) (row : ℕ) (fields : List (List ℕ)) (t : Tuple) → IsSubset (below (width_of s)) (with_columns columns) → ClosedRowOf s columns row fields (Ok t)
    → (length t ≡ width_of s) × FitsEach (types_of s) (nullable_of s) t
row_whole s columns row fields t within (even, is, fits) =
    let n : ℕ = width_of s in
    let ms : List ℕ = members_below n (with_columns columns) in
    let size : length ms ≡ n = length-members_below n (with_columns columns) ∙ whole_count n (with_columns columns) within n (omega arith) in (
      ap length is ∙ length-map ms (value_of columns fields) ∙ size,
      λ k column type.
          let small : k < n = omega (arith, slice_get_within (types_of s) k column type, s.typed.one_each) in
          let has : with_columns columns k ≡ true = within k (grind (arith, small)) in
          let at : get_or ms k k ≡ k = ap (λ (j : ℕ). get_or ms j k) (sym (whole_count n (with_columns columns) within k (omega (arith, small)))) ∙ members_below-at n (with_columns columns) k k small has in
          let long : k < length (map (value_of columns fields) ms) = omega (arith, length-map ms (value_of columns fields), size, small) in
          let value : value_at t k ≡ value_of columns fields k =
          ap (λ (u : Tuple). value_at u k) is ∙ same_default (map (value_of columns fields) ms) k [] (value_of columns fields k) long ∙ get_or-map (value_of columns fields) ms k k ∙ ap (value_of columns fields) at in
          subst (FitsColumn column (nullable_of s k)) (sym value) (fits k has column type),
    )

-- a row that is given has no open quote
pub closed_row : (s : Schema) (columns : List ℕ) (b : Bool) (row : ℕ) (fields : List (List ℕ)) (t : Tuple)
    → RowOf s columns b row fields (Ok t) → ClosedRowOf s columns row fields (Ok t)
closed_row s columns true row fields t h = cc
closed_row s columns false row fields t h = h

-- a header that means columns has no open quote
pub closed_means : (b : Bool) (Means : Result (List ℕ) RowRefusal → Type 0) (columns : List ℕ)
    → HeaderOf b Means (Ok columns) → Means (Ok columns)
closed_means true Means columns h = cc
closed_means false Means columns h = h

whole_table : (s : Schema) (unclosed : Option ℕ) (rs : List (List (List ℕ))) (rows : Relation) → TableOf s (IsHeaderOf (width_of s) (names_of s)) unclosed rs (Ok rows)
    → (i : ℕ) → i < length rows
    → (length (slice_index_or rows i []) ≡ width_of s) × FitsEach (types_of s) (nullable_of s) (slice_index_or rows i [])
whole_table s unclosed [] rows h i l = cc
whole_table s unclosed (header ∷ records) rows (Err e, means, under) i l = cc
whole_table s unclosed (header ∷ records) rows (Ok columns, means, under) i l =
    row_whole s columns (i + 1) (slice_index_or records i []) (slice_index_or rows i [])
    (closed_means _ (IsHeaderOf (width_of s) (names_of s) header) columns means).1
    (closed_row s columns _ (i + 1) _ _ (under.0.each i l))

-- the rows have a value for each attribute, which fits its column
pub rows_over : (s : Schema) (text : List ℕ) (rows : Relation) → RowsOf s text (Ok rows) → IsOver (width_of s) rows
rows_over s text rows h k d l = ap length (same_default rows k d [] l) ∙ (whole_table s (open_record text) (records_of text) rows h k l).0

pub rows_fit : (s : Schema) (text : List ℕ) (rows : Relation) → RowsOf s text (Ok rows) → FitsColumns s rows
rows_fit s text rows h k d l =
    subst (FitsEach (types_of s) (nullable_of s)) (sym (same_default rows k d [] l)) (whole_table s (open_record text) (records_of text) rows h k l).1
