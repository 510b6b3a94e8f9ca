-- What `read_part` reads is a table.
use Rattle.std.proofs.Common.{◌≡◌, ℕ, ◌+◌, ◌<◌, Bool, true, false, cond, nat_eq, List, [], ◌∷◌, ◌++◌, length, slice_index_or, Option, Some, None, Result, Ok, Err, refl, sym, ap, subst, ◌∙◌, arith}
use Rattle.std.specs.Prelude.{All}
use Rattle.std.proofs.lemmas.Bool.{eqb-true}
use Rattle.std.proofs.lemmas.Bool.Decides.{nat_tests}
use Rattle.std.proofs.lemmas.List.{length-map}
use Rattle.std.proofs.lemmas.List.Elements.{All-nil, All-push, All-get_or}
use Rattle.std.proofs.lemmas.List.Folds.{Any-from_list_any}
use Rattle.std.proofs.lemmas.List.Quantifiers.{position-Some}
use Rattle.attr_sets.specs.Attributes.{count_below, Attributes, below, IsSubset}
use Rattle.attr_sets.specs.Sets.{attributes}
use Rattle.attr_sets.specs.declared.set.AttrSet.{AttrSet}
use Rattle.csv_rows.specs.Columns.{with_columns, attribute_of_column, columns_of_header, columns_from, ◌>>=◌}
use Rattle.csv_rows.specs.Quotes.{open_record, is_open}
use Rattle.csv_rows.specs.Reading.{PartOf, HasScheme, HeaderOf, TableOf, RowsUnder, value_of}
use Rattle.csv_rows.specs.declared.refusal.RowRefusal.{RowRefusal}
use Rattle.csv_rows.specs.declared.refusal.RowRefusal.TheVariants as refusal
use Rattle.dep_model.proofs.ListLemmas.{same_default}
use Rattle.csv_rows.proofs.ReadingLemmas.{closed_row}
use Rattle.schema_model.specs.Names.{same_name}
use Rattle.dep_model.specs.Projections.{members_below}
use Rattle.schema_model.specs.Schemas.{names_of, width_of, attribute_named}
use Rattle.dep_model.specs.Tuples.{Relation}
use Rattle.schema_model.specs.Schemas.{Schema}
use Rattle.dep_model.proofs.SchemeLemmas.{length-members_below}
use Rattle.table_join.specs.Tables.{IsTable}
use Rattle.attr_sets.proofs.AttributesLemmas.{same_at}

-- the attribute of a column is one that has a name
named_low : (names : List (List ℕ)) (column a : ℕ) (before : Attributes) (field : List ℕ) → attribute_of_column column before
    (attribute_named names field) ≡ Ok a → a < length names
named_low names column a before field h = by (attribute_named names field) refl h
  where
    without_double : (t : Bool) (b : ℕ) → cond t (Err (refusal.DoubleColumn column)) (Ok b) ≡ Ok a → b ≡ a
    without_double true b e = cc
    without_double false b e = cc

    by : (o : Option ℕ) → attribute_named names field ≡ o → attribute_of_column column before o ≡ Ok a → a < length names
    by None p e = cc
    by (Some b) p e =
        let at = position-Some (λ (name : List ℕ). same_name name field) names b [] p in
        subst (λ (k : ℕ). k < length names) (without_double (before b) b e) at.0

bind_ok : {A B : Type 0} (r : Result A RowRefusal) (f : A → Result B RowRefusal) (b : B) → (r >>= f) ≡ Ok b
    → (a : A) × (r ≡ Ok a) × (f a ≡ Ok b)
bind_ok (Ok a) f b h = (a, refl, h)
bind_ok (Err e) f b h = cc

columns_low : (names : List (List ℕ)) (before : List ℕ) (fields : List (List ℕ)) (columns : List ℕ)
    → columns_from names before fields ≡ Ok columns
    → All (λ (a : ℕ). a < length names) before → All (λ (a : ℕ). a < length names) columns
unfolding columns_from
columns_low names before [] columns h low = let same : before ≡ columns = cc in subst
    (All (λ (a : ℕ). a < length names)) same low
columns_low names before (field ∷ fields) columns h low =
    let w = bind_ok (attribute_of_column (length before + 1) (with_columns before) (attribute_named names field))
    (λ a. columns_from names (before ++ a ∷ []) fields) columns h in
    columns_low names (before ++ w.0 ∷ []) fields columns w.2
    (All-push (λ (a : ℕ). a < length names) before w.0 low (named_low names (length before + 1) w.0 (with_columns before)
    field w.1))

named_within : (n : ℕ) (columns : List ℕ) → All (λ (a : ℕ). a < n) columns → IsSubset (with_columns columns) (below n)
named_within n columns low a has =
    let found = Any-from_list_any (nat_eq a) columns has in
    let is : a ≡ found.1 = eqb-true a found.1 found.4 in
    let there : found.1 < n = subst (λ (k : ℕ). k < n) found.3 (All-get_or (λ (k : ℕ). k < n) columns found.0
    found.1 found.2 low) in
    grind (arith, nat_tests, is, there)

-- rows below a header that means columns
under_columns : (s : Schema) (unclosed : Option ℕ) (records : List (List (List ℕ))) (rows : Relation) (columns : List ℕ)
    (means found : Result (List ℕ) RowRefusal) (b : Bool)
    → HeaderOf b (λ r. r ≡ means) found → RowsUnder s found unclosed records (Ok rows) → means ≡ Ok columns
    → RowsUnder s (Ok columns) unclosed records (Ok rows)
under_columns s unclosed records rows columns means found true is under same =
    let none : ◌≡◌ {A = Result Relation RowRefusal} (Ok rows) (Err refusal.OpenHeader) =
    subst (λ (r : Result (List ℕ) RowRefusal). RowsUnder s r unclosed records (Ok rows)) is under in cc
under_columns s unclosed records rows columns means found false is under same =
    subst (λ (r : Result (List ℕ) RowRefusal). RowsUnder s r unclosed records (Ok rows)) (is ∙ same) under

-- the part that a text holds is a table over the attributes of a schema
pub part_is_table : (s : Schema) (text : List ℕ) (rows : Relation) (scheme : AttrSet) → PartOf s text (Ok rows)
    → HasScheme s text scheme
    → IsTable (width_of s) (record { scheme = attributes scheme; rows = rows })
part_is_table s text rows scheme part has =
    let names : List (List ℕ) = names_of s in
    let n : ℕ = width_of s in
    let columns : List ℕ = has.3 in
    let unclosed = open_record text in
    let w = subst (λ (rs : List (List (List ℕ))). TableOf s (λ header found. found ≡ columns_of_header names header)
    unclosed rs (Ok rows)) has.2 part in
    let under : RowsUnder s (Ok columns) unclosed has.1 (Ok rows) =
    under_columns s unclosed has.1 rows columns (columns_of_header names has.0) w.0 (is_open unclosed 1) w.1 w.2 has.4 in
    let low = columns_low names [] has.0 columns has.4 (All-nil (λ (a : ℕ). a < length names)) in
    record {
      within = λ k h. named_within n columns low k (sym (same_at has.5 k) ∙ h);
      over = λ k d l.
          let each = closed_row s columns _ (k + 1) _ _ (under.0.each k l) in
          ap length (same_default rows k d [] l)
          ∙ ap length each.1
          ∙ length-map (members_below n (with_columns columns)) (value_of columns (slice_index_or has.1 k []))
          ∙ length-members_below n (with_columns columns)
          ∙ sym (ap (λ x. count_below x n) has.5);
    }
