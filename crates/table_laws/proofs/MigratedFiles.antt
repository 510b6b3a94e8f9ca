-- The tables of a migration: each has the rows of an ordered projection of tuples that are complete for it.
use Rattle.std.proofs.Common.{◌≡◌, ◌+◌, ◌<◌, ◌≤◌, ℕ, List, [], ◌∷◌, length, Ok, refl, sym, ap, subst, ◌∙◌, arith}
use Rattle.std.specs.Prelude.{Bool, not, filter, All}
use Rattle.std.proofs.lemmas.List.{length-map}
use Rattle.std.proofs.lemmas.List.Elements.{All-cons, All-tail, All-map, All-filter}
use Rattle.std.proofs.lemmas.List.Filters.{length-filter_both}
use Rattle.attr_sets.specs.Attributes.{Attributes, count_below}
use Rattle.attr_sets.specs.Sets.{attributes}
use Rattle.table_names.specs.TableNames.{GivenNames}
use Rattle.csv_migrate.specs.Migration.{column_names, table_of, tables_from}
use Rattle.csv_rows.specs.Reading.{PartOf}
use Rattle.csv_rows.specs.declared.reading.TheConstants.{MOST_ROWS}
use Rattle.column_values.specs.Values.{FitsColumn, FitsColumns, FitsEach}
use Rattle.csv_text.specs.Rows.{rows_text}
use Rattle.schema_model.specs.Names.{IsName}
use Rattle.dep_model.specs.Projections.{project_tuple, projection, ordered_projection}
use Rattle.optional_tables.specs.declared.keyed.KeyedScheme.{KeyedScheme}
use Rattle.optional_tables.specs.LookUps.{empty_values, misses_none}
use Rattle.schema_model.specs.Schemas.{names_of, nullable_of, types_of, width_of}
use Rattle.dep_model.specs.Tuples.{Tuple, Relation, IsOver, same_tuple, distinct_tuples}
use Rattle.schema_model.specs.Schemas.{Schema}
use Rattle.dep_model.proofs.SchemeLemmas.{length-project_tuple, value_in-project_tuple}
use Rattle.named_tables.specs.Tables.{TableValue}
use Rattle.table_laws.proofs.PartFiles.{FitsItsColumns, part_back}
use Rattle.destinations.specs.Formats.{table_text}
use Rattle.destinations.specs.declared.format.TableFormat.TheVariants.{Csv}

-- ---- distinct tuples
all_distinct : (P : Tuple → Type 0) (r : Relation) → All P r → All P (distinct_tuples r)
all_distinct P [] all = all
all_distinct P (t ∷ r) all =
    All-cons P t _ (all 0 t (omega arith)) (All-filter (λ u. not (same_tuple t u)) P (distinct_tuples r) (all_distinct P r (All-tail P t r all)))

length-distinct_tuples-le : (r : Relation) → length (distinct_tuples r) ≤ length r
length-distinct_tuples-le [] = omega arith
length-distinct_tuples-le (t ∷ r) =
    let both = length-filter_both (λ u. not (same_tuple t u)) (λ u. not (not (same_tuple t u))) (λ u. refl) (distinct_tuples r) in
    omega (arith, length-distinct_tuples-le r, both)

-- no more tuples pass a test than there are
length-filter-le : (p : Tuple → Bool) (r : Relation) → length (filter p r) ≤ length r
length-filter-le p r =
    let both = length-filter_both p (λ t. not (p t)) (λ t. refl) r in
    omega (arith, both)

-- ---- one table
-- the text of an ordered projection of rows
projection_back : (s : Schema) (rows : Relation) (x : Attributes) → All IsName (names_of s)
    → IsOver (width_of s) rows → FitsColumns s rows → length rows ≤ MOST_ROWS → 0 < count_below x (width_of s)
    → PartOf s (rows_text (column_names s x) (ordered_projection x rows)) (Ok (ordered_projection x rows))
projection_back s rows x named over typed within_limit not_empty =
    let n = width_of s in
    let each : IsOver (count_below x n) (projection x rows) =
    All-map (λ (u : Tuple). length u ≡ count_below x n) (project_tuple x) rows
    (λ i d l. length-project_tuple x _ ∙ ap (count_below x) (over i d l)) in
    let fits : All (FitsItsColumns s x) (projection x rows) =
    All-map (FitsItsColumns s x) (project_tuple x) rows
    (λ i d l k column inside is. subst (λ (value : List ℕ). FitsColumn column (nullable_of s k) value) (sym (value_in-project_tuple x _ k inside))
    (typed i d l k column is)) in
    part_back s x (ordered_projection x rows) named not_empty
    (all_distinct (λ (u : Tuple). length u ≡ count_below x n) (projection x rows) each)
    (all_distinct (FitsItsColumns s x) (projection x rows) fits)
    (omega (arith, within_limit, length-distinct_tuples-le (projection x rows), length-map rows (project_tuple x)))

-- that of the tuples that are complete for a table
table_back : (s : Schema) (names : GivenNames) (rows : Relation) (number : ℕ) (table : KeyedScheme) → All IsName (names_of s)
    → IsOver (width_of s) rows → FitsColumns s rows → length rows ≤ MOST_ROWS
    → 0 < count_below (attributes table.scheme) (width_of s)
    → PartOf s (table_text Csv (table_of s names rows number table)) (Ok (table_of s names rows number table).rows)
table_back s names rows number table named over typed within_limit not_empty =
    let complete = misses_none (empty_values (nullable_of s)) (attributes table.key) in
    projection_back s (filter complete rows) (attributes table.scheme) named
    (All-filter complete (λ (u : Tuple). length u ≡ width_of s) rows over)
    (All-filter complete (FitsEach (types_of s) (nullable_of s)) rows typed)
    (omega (arith, within_limit, length-filter-le complete rows)) not_empty

-- ---- all tables
pub tables_back : (s : Schema) (names : GivenNames) (rows : Relation) (number : ℕ) (design : List KeyedScheme)
    → All IsName (names_of s) → IsOver (width_of s) rows → FitsColumns s rows → length rows ≤ MOST_ROWS
    → All (λ (table : KeyedScheme). 0 < count_below (attributes table.scheme) (width_of s)) design
    → All (λ (table : TableValue). PartOf s (table_text Csv table) (Ok table.rows)) (tables_from s names rows number design)
tables_back s names rows number [] named over typed within_limit not_empty = λ i d l. absurd (omega (arith, l))
tables_back s names rows number (table ∷ design) named over typed within_limit not_empty =
    let Back : TableValue → Type 0 = λ value. PartOf s (table_text Csv value) (Ok value.rows) in
    All-cons Back (table_of s names rows number table) (tables_from s names rows (number + 1) design)
    (table_back s names rows number table named over typed within_limit (not_empty 0 table (omega arith)))
    (tables_back s names rows (number + 1) design named over typed within_limit
    (All-tail (λ (other : KeyedScheme). 0 < count_below (attributes other.scheme) (width_of s)) table design not_empty))
