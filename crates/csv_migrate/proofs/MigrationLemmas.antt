-- The tables of a design one after the other, their join, and what is read back from them.
use Rattle.std.proofs.Common.{◌≡◌, ◌+◌, ◌<◌, ◌↔◌, ℕ, Bool, false, List, [], ◌∷◌, ◌++◌, length, get_or, map, take, refl, sym, ap, subst, ◌∙◌, arith, add-one}
use Rattle.std.specs.Prelude.{All, Contains}
use Rattle.std.specs.List.{AllZip}
use Rattle.std.proofs.lemmas.List.{length-take-le, map-append}
use Rattle.std.proofs.lemmas.List.Elements.{All-head, All-tail}
use Rattle.std.proofs.Math.Seq.{take-suc}
use Rattle.attr_sets.specs.Attributes.{Attributes}
use Rattle.attr_sets.specs.Sets.{attributes}
use Rattle.attr_sets.specs.declared.set.AttrSet.{AttrSet}
use Rattle.dep_model.specs.Tuples.{Tuple, Relation}
use Rattle.dep_model.specs.Dependencies.{Dependency}
use Rattle.dep_model.specs.Implication.{IsLegal}
use Rattle.dep_model.specs.Projections.{project_tuple, projections, InJoin, IsLossless}
use Rattle.schema_model.specs.Schemas.{Schema, nullable_of}
use Rattle.dep_model.proofs.DistinctLemmas.{ordered_projection-same}
use Rattle.dep_model.proofs.JoinLemmas.{tuple_in_join}
use Rattle.lookup_laws.proofs.MissingLemmas.{empty_is_missing, filled_has_all}
use Rattle.lookup_laws.proofs.ReadBackLemmas.{read_back_are_rows}
use Rattle.optional_tables.specs.declared.keyed.KeyedScheme.{KeyedScheme}
use Rattle.optional_tables.specs.Homes.{is_optional}
use Rattle.optional_tables.specs.LookUps.{empty_values, rows_for, schemes_of_tables, CanBeReadBack, IsReadBack, IsTidyFor}
use Rattle.table_names.specs.TableNames.{GivenNames}
use Rattle.named_tables.specs.Tables.{TableValue, chosen_value, chosen_values}
use Rattle.named_tables.specs.declared.table.ChosenTable.{ChosenTable}
use Rattle.csv_migrate.specs.Migration.{table_of, tables_from, tables_of_migration, schemes_in, relations_of, JoinIs, ReadsBack}

-- one table more
tables_more : (schema : Schema) (names : GivenNames) (rows : Relation) (number : ℕ) (design : List KeyedScheme) (table : KeyedScheme)
    → tables_from schema names rows number (design ++ table ∷ [])
    ≡ tables_from schema names rows number design ++ table_of schema names rows (number + length design) table ∷ []
tables_more schema names rows number [] table = ap (λ (k : ℕ). table_of schema names rows k table ∷ []) at
  where
    at : number ≡ number + 0
    at = omega arith
tables_more schema names rows number (first ∷ design) table =
    let at : (number + 1) + length design ≡ number + length (first ∷ design) = omega arith in
    ap (λ (l : List TableValue). table_of schema names rows number first ∷ l)
    (tables_more schema names rows (number + 1) design table)
    ∙ ap (λ (k : ℕ). table_of schema names rows number first ∷ (tables_from schema names rows
    (number + 1) design ++ table_of schema names rows k table ∷ [])) at

-- the next table
next_table : (schema : Schema) (names : GivenNames) (rows : Relation) (design : List KeyedScheme) (k : ℕ) (d : KeyedScheme)
    → k < length design
    → tables_of_migration schema names (take (k + 1) design) rows
    ≡ tables_of_migration schema names (take k design) rows ++ table_of schema names rows k (get_or design k d) ∷ []
next_table schema names rows design k d low =
    let at : 0 + length (take k design) ≡ k = omega (arith, length-take-le k design (omega (arith, low))) in
    ap (λ (tables : List KeyedScheme). tables_of_migration schema names tables rows) (rw add-one (take-suc design k d low))
    ∙ tables_more schema names rows 0 (take k design) (get_or design k d)
    ∙ ap (λ (n : ℕ). tables_of_migration schema names (take k design) rows ++ table_of schema names rows n (get_or design k d) ∷ []) at

pub same_table : (name name' : List ℕ) (columns columns' : List (List ℕ)) (nullable nullable' : List Bool)
    (rows rows' : Relation) → name ≡ name' → columns ≡ columns' → nullable ≡ nullable' → rows ≡ rows'
    → ◌≡◌ {A = TableValue} (record { name = name; columns = columns; nullable = nullable; rows = rows })
    (record { name = name'; columns = columns'; nullable = nullable'; rows = rows' })
same_table name name' columns columns' nullable nullable' rows rows' e f g h = cc

pub table_added : (schema : Schema) (names : GivenNames) (rows : Relation) (design : List KeyedScheme) (k : ℕ) (d : KeyedScheme)
    (old new : List ChosenTable) (made : ChosenTable) → k < length design
    → chosen_values rows old ≡ tables_of_migration schema names (take k design) rows → new ≡ old ++ made ∷ []
    → chosen_value rows made ≡ table_of schema names rows k (get_or design k d)
    → chosen_values rows new ≡ tables_of_migration schema names (take (k + 1) design) rows
table_added schema names rows design k d old new made low so_far pushed is =
    ap (chosen_values rows) pushed ∙ map-append (chosen_value rows) old (made ∷ [])
    ∙ ap (λ (ts : List TableValue). ts ++ chosen_value rows made ∷ []) so_far
    ∙ ap (λ (t : TableValue). tables_of_migration schema names (take k design) rows ++ t ∷ []) is
    ∙ sym (next_table schema names rows design k d low)

-- and its scheme
abbrev pub scheme_in : KeyedScheme → AttrSet
scheme_in table = table.scheme

pub scheme_added : (design : List KeyedScheme) (k : ℕ) (d : KeyedScheme) (old new : List ChosenTable) (made : ChosenTable)
    → k < length design → schemes_in old ≡ map scheme_in (take k design) → new ≡ old ++ made ∷ []
    → made.scheme ≡ (get_or design k d).scheme → schemes_in new ≡ map scheme_in (take (k + 1) design)
scheme_added design k d old new made low so_far pushed is =
    let more : take (k + 1) design ≡ take k design ++ get_or design k d ∷ [] = rw add-one (take-suc design k d low) in
    ap schemes_in pushed ∙ map-append (λ (t : ChosenTable). t.scheme) old (made ∷ [])
    ∙ ap (λ (xs : List AttrSet). xs ++ made.scheme ∷ []) so_far
    ∙ ap (λ (s : AttrSet). map scheme_in (take k design) ++ s ∷ []) is
    ∙ sym (ap (map scheme_in) more ∙ map-append scheme_in (take k design) (get_or design k d ∷ []))

-- ---- the join of the tables
-- the rows of the tables
migrated_relations : (schema : Schema) (names : GivenNames) (rows : Relation) (number : ℕ) (design : List KeyedScheme)
    → relations_of (tables_from schema names rows number design) ≡ map (rows_for (empty_values (nullable_of schema)) rows) design
migrated_relations schema names rows number [] = refl
migrated_relations schema names rows number (table ∷ design) =
    ap (λ (l : List Relation). rows_for (empty_values (nullable_of schema)) rows table ∷ l)
    (migrated_relations schema names rows (number + 1) design)

abbrev IsIn : Tuple → Attributes → Relation → Type 0
IsIn t scheme relation = Contains relation (project_tuple scheme t)

module _ (nullable : Attributes) (rows : Relation) (t : Tuple) where
  -- whether a row stands in a table that has all
  same_row : (table : KeyedScheme) → is_optional nullable table ≡ false
      → (Contains (rows_for (empty_values nullable) rows table) (project_tuple (attributes table.scheme) t))
      ↔ (Contains (map (project_tuple (attributes table.scheme)) rows) (project_tuple (attributes table.scheme) t))
  same_row table filled =
      let scheme = attributes table.scheme in
      let all = filled_has_all nullable (empty_values nullable) rows table (empty_is_missing nullable) filled in
      let same = ordered_projection-same scheme rows (project_tuple scheme t) in (
        (λ stands. same.1 (subst (λ (r : Relation). Contains r (project_tuple scheme t)) all stands)),
        (λ stands. subst (λ (r : Relation). Contains r (project_tuple scheme t)) (sym all) (same.0 stands)),
      )

  in_projections : (design : List KeyedScheme) → All (λ table. is_optional nullable table ≡ false) design
      → AllZip (IsIn t) (schemes_of_tables design) (map (rows_for (empty_values nullable) rows) design)
      → AllZip (IsIn t) (schemes_of_tables design) (projections (schemes_of_tables design) rows)
  in_projections [] filled each = tt
  in_projections (table ∷ design) filled each = (
    (same_row table (All-head (λ other. is_optional nullable other ≡ false) table design filled)).0 each.0,
    in_projections design (All-tail (λ other. is_optional nullable other ≡ false) table design filled) each.1,
  )

  in_tables : (design : List KeyedScheme) → All (λ table. is_optional nullable table ≡ false) design
      → AllZip (IsIn t) (schemes_of_tables design) (projections (schemes_of_tables design) rows)
      → AllZip (IsIn t) (schemes_of_tables design) (map (rows_for (empty_values nullable) rows) design)
  in_tables [] filled each = tt
  in_tables (table ∷ design) filled each = (
    (same_row table (All-head (λ other. is_optional nullable other ≡ false) table design filled)).1 each.0,
    in_tables design (All-tail (λ other. is_optional nullable other ≡ false) table design filled) each.1,
  )

-- where no table is optional, the join of the tables of legal rows on a lossless plan is exactly the rows
pub join_is_rows : (schema : Schema) (names : GivenNames) (n : ℕ) (ds : List Dependency) (design : List KeyedScheme) (rows : Relation)
    → IsLegal n ds rows → IsLossless n ds (schemes_of_tables design)
    → All (λ table. is_optional (nullable_of schema) table ≡ false) design
    → JoinIs n (schemes_of_tables design) (tables_of_migration schema names design rows) rows
join_is_rows schema names n ds design rows legal lossless filled t =
    subst (λ (relations : List Relation). InJoin n (schemes_of_tables design) relations t ↔ Contains rows t)
    (sym (migrated_relations schema names rows 0 design)) (
      (λ joined. lossless.gains_none rows legal t
          (record { over = joined.over; in_each = in_projections (nullable_of schema) rows t design filled joined.in_each })),
      (λ member.
          let joined = tuple_in_join n (schemes_of_tables design) rows t legal.over member in
          record { over = joined.over; in_each = in_tables (nullable_of schema) rows t design filled joined.in_each }),
    )

-- where the design can be read back, exactly the rows are
pub rows_are_read_back : (schema : Schema) (names : GivenNames) (n : ℕ) (ds : List Dependency) (design : List KeyedScheme)
    (rows : Relation) → IsLegal n ds rows → CanBeReadBack n ds (nullable_of schema) design
    → All (IsTidyFor (empty_values (nullable_of schema)) rows) design
    → ReadsBack n (nullable_of schema) design (tables_of_migration schema names design rows) rows
rows_are_read_back schema names n ds design rows legal can tidy t =
    let nullable = nullable_of schema in
    subst (λ (relations : List Relation). IsReadBack n nullable (empty_values nullable) design relations t ↔ Contains rows t)
    (sym (migrated_relations schema names rows 0 design))
    (read_back_are_rows n ds nullable (empty_values nullable) design rows (empty_is_missing nullable) legal can tidy t)
