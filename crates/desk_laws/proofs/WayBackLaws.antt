-- The files of a migration mean its tables; so `rejoin` of them, in whatever order they are named, says the rows.
use Rattle.std.proofs.Common.{◌≡◌, ◌+◌, ◌<◌, ◌≤◌, ℕ, zero, suc, Bool, true, false, List, [], ◌∷◌, length, map, Ok, Err, Result, refl, sym, ap, ap₂, subst, ◌∙◌, arith, IsPermutation}
use Rattle.std.specs.Prelude.{All, codes, slice_index_or}
use Rattle.std.specs.List.{AllZip}
use Rattle.std.proofs.lemmas.List.Elements.{All-contains, All-head, All-tail}
use Rattle.std.proofs.lemmas.List.Sorted.{All-permutation, IsPermutation-map}
use Rattle.attr_sets.specs.Attributes.{Attributes, IsEmpty, IsSubset, below, count_below}
use Rattle.attr_sets.specs.Sets.{attributes}
use Rattle.column_values.specs.Values.{FitsColumns}
use Rattle.csv_migrate.specs.Migration.{column_names, relations_of, tables_from}
use Rattle.csv_rows.specs.Quotes.{is_open, open_record}
use Rattle.csv_rows.specs.Reading.{HasScheme, PartOf, RowOf, TableOf}
use Rattle.csv_text.specs.Rows.{rows_text}
use Rattle.csv_rows.specs.Columns.{IsHeaderOf}
use Rattle.csv_rows.specs.Records.{records_of}
use Rattle.csv_rows.specs.declared.part.PartialRows.{PartialRows}
use Rattle.csv_rows.specs.declared.reading.TheConstants.{MOST_ROWS}
use Rattle.csv_rows.specs.declared.refusal.RowRefusal.{RowRefusal}
use Rattle.csv_rows.proofs.ReadingLemmas.{rows_fit}
use Rattle.dep_model.specs.Plans.{IsPlan}
use Rattle.dep_model.specs.Projections.{project_tuple}
use Rattle.dep_model.specs.Tuples.{IsOver, Relation, Tuple}
use Rattle.dep_model.proofs.DistinctLemmas.{filter-member, ordered_projection-same}
use Rattle.dep_model.proofs.ListLemmas.{All-members, Contains-map, map-member}
use Rattle.dep_model.proofs.SchemeLemmas.{length-project_tuple}
use Rattle.design_order.specs.Order.{IsInDesignOrder}
use Rattle.design_order.proofs.OrderLemmas.{order-plan}
use Rattle.optional_tables.specs.LookUps.{complete_tuples, empty_values, misses_none, rows_for, schemes_of_tables}
use Rattle.optional_tables.specs.declared.keyed.KeyedScheme.{KeyedScheme}
use Rattle.rejoin_laws.proofs.MovedLemmas.{zip_moved}
use Rattle.schema_grammar.proofs.DeclaredNames.{declared_are_names}
use Rattle.schema_grammar.specs.Texts.{declarations_of}
use Rattle.schema_model.specs.Names.{IsName}
use Rattle.schema_model.specs.Schemas.{Schema, names_of, nullable_of, theory_of, width_of}
use Rattle.split_forms.proofs.SizeLemmas.{proper_count}
use Rattle.table_join.specs.Tables.{PartialRelation, plan_of_tables, rows_of_tables, table_of_part, tables_of}
use Rattle.table_laws.proofs.MigratedFiles.{tables_back}
use Rattle.table_laws.proofs.PartFiles.{scheme_back}
use Rattle.table_names.specs.TableNames.{GivenNames}
use Rattle.named_tables.specs.Tables.{TableValue}
use Rattle.destinations.specs.Formats.{table_text}
use Rattle.destinations.specs.declared.format.TableFormat.TheVariants.{Csv}
use Rattle.desk_outside.specs.Files.{Files}
use Rattle.desk_responses.specs.ResponseValues.{ResponseValue}
use Rattle.desk_inputs.specs.FileKinds.{IsFile, WithFiles}
use Rattle.desk_inputs.specs.Inputs.{schema_file}
use Rattle.desk_inputs.specs.Parts.{MeansPart, part_file}
use Rattle.desk_inputs.specs.Readings.{known_files}
use Rattle.desk_words.specs.Forms.{are_one_to_64}
use Rattle.desk_tables.specs.OwnFolders.{Looks}
use Rattle.desk_tables.specs.Rejoining.{JoinsTables}
use Rattle.desk_cli.specs.Performs.{Answers}
use Rattle.plan_laws.specs.Rejoined.{HaveRowsOnceEach, SaysTheRows}
use Rattle.plan_laws.proofs.OwnLookUps.{there_and_back}
use Rattle.plan_laws.proofs.RejoinedLaws.{relations_from}
use Rattle.desk_laws.specs.WayBack.{AreMigrated, FilesAreRejoined, HoldTables, HoldsTable}
use Rattle.desk_laws.proofs.CompleteLaws.{after_schema}
use Rattle.desk_laws.proofs.FileLaws.{rejoin_asks}
use Rattle.desk_laws.proofs.OneInput.{after_parts}

-- ---- rows that were read
-- they are no more than a file may have
few_rows : (s : Schema) (Means : List (List ℕ) → Result (List ℕ) RowRefusal → Type 0) (text : List ℕ) (rs : List (List (List ℕ)))
    (rows : Relation) → TableOf s Means (open_record text) rs (Ok rows) → length rows ≤ MOST_ROWS
few_rows s Means text [] rows of = cc
few_rows s Means text (header ∷ records) rows (Err e, means, under) = cc
few_rows s Means text (header ∷ records) rows (Ok columns, means, under) = by (length rows) refl
  where
    low : (m : ℕ) (fields : List (List ℕ)) (t : Tuple) (b : Bool) → RowOf s columns b (m + 1) fields (Ok t) → suc m ≤ MOST_ROWS
    low m fields t true row = cc
    low m fields t false row = omega (arith, row.0.1)

    by : (m : ℕ) → length rows ≡ m → m ≤ MOST_ROWS
    by zero long = omega arith
    by (suc m) long =
        low m (slice_index_or records m []) (slice_index_or rows m []) (is_open (open_record text) (m + 2))
        (under.0.each m (omega (arith, long)))

-- ---- tables beside the design
record IsTableFor (s : Schema) (r : Relation) (table : TableValue) (keyed : KeyedScheme) : Type 0 where
  columns : table.columns ≡ column_names s (attributes keyed.scheme)
  rows : table.rows ≡ rows_for (empty_values (nullable_of s)) r keyed

for_design : (s : Schema) (names : GivenNames) (rows : Relation) (number : ℕ) (design : List KeyedScheme)
    → AllZip (IsTableFor s rows) (tables_from s names rows number design) design
for_design s names rows number [] = tt
for_design s names rows number (d ∷ ds) = (record { columns = refl; rows = refl }, for_design s names rows (number + 1) ds)

-- what is read of the file of such a table
abbrev part_for : Schema → Relation → KeyedScheme → PartialRows
part_for s rows keyed = record { scheme = keyed.scheme; rows = rows_for (empty_values (nullable_of s)) rows keyed }

same_schemes : (s : Schema) (rows : Relation) (ds : List KeyedScheme)
    → plan_of_tables (tables_of (map (part_for s rows) ds)) ≡ schemes_of_tables ds
same_schemes s rows [] = refl
same_schemes s rows (d ∷ ds) = ap (λ (l : List Attributes). attributes d.scheme ∷ l) (same_schemes s rows ds)

same_rows : (s : Schema) (rows : Relation) (ds : List KeyedScheme)
    → rows_of_tables (tables_of (map (part_for s rows) ds)) ≡ map (rows_for (empty_values (nullable_of s)) rows) ds
same_rows s rows [] = refl
same_rows s rows (d ∷ ds) =
    ap (λ (l : List Relation). rows_for (empty_values (nullable_of s)) rows d ∷ l) (same_rows s rows ds)

-- ---- one file
-- a scheme has an attribute, within the schema
record IsWell (s : Schema) (keyed : KeyedScheme) : Type 0 where
  within : IsSubset (attributes keyed.scheme) (below (width_of s))
  some : 0 < count_below (attributes keyed.scheme) (width_of s)

-- a file means the rows of its table
abbrev IsBack : Schema → TableValue → Type 0
IsBack s table = PartOf s (table_text Csv table) (Ok table.rows)

module _ (s : Schema) (rows : Relation) (over : IsOver (width_of s) rows) (named : All IsName (names_of s)) where
  rows_over : (keyed : KeyedScheme)
      → IsOver (count_below (attributes keyed.scheme) (width_of s)) (rows_for (empty_values (nullable_of s)) rows keyed)
  rows_over keyed =
      let x = attributes keyed.scheme in
      let complete = complete_tuples (empty_values (nullable_of s)) keyed rows in
      All-members (λ (t : Tuple). length t ≡ count_below x (width_of s)) (rows_for (empty_values (nullable_of s)) rows keyed)
      (λ t t_in.
      let (u, u_in, same) = map-member (project_tuple x) complete t ((ordered_projection-same x complete t).1 t_in) in
      let in_rows = (filter-member (misses_none (empty_values (nullable_of s)) (attributes keyed.key)) rows u u_in).0 in
      ap length (sym same) ∙ length-project_tuple x u
      ∙ ap (λ (m : ℕ). count_below x m) (All-contains (λ (z : Tuple). length z ≡ width_of s) rows u over in_rows))

  means_part : (table : TableValue) (keyed : KeyedScheme) → IsTableFor s rows table keyed → IsWell s keyed → IsBack s table
      → MeansPart s (table_text Csv table) (part_for s rows keyed)
  means_part table keyed is well back = record {
    rows = subst (λ (r : Relation). PartOf s (table_text Csv table) (Ok r)) is.rows back;
    columns =
        subst (λ (r : Relation). HasScheme s (rows_text table.columns r) keyed.scheme) (sym is.rows)
        (subst (λ (c : List (List ℕ)). HasScheme s (rows_text c (rows_for (empty_values (nullable_of s)) rows keyed)) keyed.scheme)
        (sym is.columns)
        (scheme_back s keyed.scheme (rows_for (empty_values (nullable_of s)) rows keyed) well.within named well.some (rows_over keyed)));
  }

  parts_are : (files : Files) (names : List (List ℕ)) (tables : List TableValue) (ds : List KeyedScheme)
      → AllZip (HoldsTable files) names tables → AllZip (IsTableFor s rows) tables ds → All (IsBack s) tables → All (IsWell s) ds
      → AllZip (IsFile (part_file s) (known_files files)) names (map (part_for s rows) ds)
  parts_are files [] [] [] hold are back well = tt
  parts_are files [] [] (d ∷ ds) hold are back well = absurd are
  parts_are files [] (t ∷ ts) ds hold are back well = absurd hold
  parts_are files (n ∷ ns) [] ds hold are back well = absurd hold
  parts_are files (n ∷ ns) (t ∷ ts) [] hold are back well = absurd are
  parts_are files (n ∷ ns) (t ∷ ts) (d ∷ ds) hold are back well = (
    record {
      bytes = table_text Csv t;
      content = hold.0;
      means = means_part t d are.0 (All-head (IsWell s) d ds well) (All-head (IsBack s) t ts back);
    },
    parts_are files ns ts ds hold.1 are.1 (All-tail (IsBack s) t ts back) (All-tail (IsWell s) d ds well),
  )

-- ---- all files
module _ (files : Files) (looks : Looks) (name : List ℕ) (others : List (List ℕ)) (s : Schema) (names : GivenNames)
    (plan : List Attributes) (text : List ℕ) (rows : Relation) (tables : List TableValue)
    (migrated : AreMigrated s names plan text rows tables) (file : IsFile schema_file (known_files files) name s)
    (hold : HoldTables files others tables) where
  abbrev design : List KeyedScheme
  design = migrated.are.design

  over : IsOver (width_of s) rows
  over = migrated.legal.over

  named : All IsName (names_of s)
  named = (declared_are_names file.bytes (declarations_of s) file.means).each

  planned : IsPlan (width_of s) (schemes_of_tables design)
  planned = order-plan (width_of s) (theory_of s) plan (schemes_of_tables design) migrated.are.keyed.order migrated.planned

  well : All (IsWell s) design
  well = All-members (IsWell s) design (λ d d_in.
      let x_in = Contains-map (λ (k : KeyedScheme). attributes k.scheme) design d d_in in
      let within = All-contains (λ (x : Attributes). IsSubset x (below (width_of s))) (schemes_of_tables design) (attributes d.scheme)
      planned.within x_in in
      let some = All-contains (λ (x : Attributes). IsEmpty x → ⊥) (schemes_of_tables design) (attributes d.scheme) planned.not_empty x_in in
      record {
        within = within;
        some = proper_count (width_of s) (attributes d.scheme) (record { within = within; not_empty = some });
      })

  back : All (IsBack s) tables
  back =
      subst (All (IsBack s)) (sym migrated.are.projections)
      (tables_back s names rows 0 design named over (rows_fit s text rows migrated.read)
      (few_rows s (IsHeaderOf (width_of s) (names_of s)) text (records_of text) rows migrated.read)
      (All-members (λ (k : KeyedScheme). 0 < count_below (attributes k.scheme) (width_of s)) design
      (λ d d_in. (All-contains (IsWell s) design d well d_in).some)))

  zipped : AllZip (IsTableFor s rows) tables design
  zipped = subst (λ (ts : List TableValue). AllZip (IsTableFor s rows) ts design) (sym migrated.are.projections)
      (for_design s names rows 0 design)

  have : (ds : List KeyedScheme) → IsPermutation design ds → HaveRowsOnceEach s plan tables (tables_of (map (part_for s rows) ds))
  have ds moved = record {
    in_order = tables_of (map (part_for s rows) design);
    are = record {
      order = subst (IsInDesignOrder (width_of s) (theory_of s) plan) (sym (same_schemes s rows design)) migrated.are.keyed.order;
      rows =
          same_rows s rows design ∙ sym (relations_from s names rows 0 design)
          ∙ sym (ap relations_of migrated.are.projections);
    };
    moved = IsPermutation-map table_of_part (map (part_for s rows) design) (map (part_for s rows) ds)
        (IsPermutation-map (part_for s rows) design ds moved);
  }

  says_rows : are_one_to_64 others ≡ true → (response : ResponseValue)
      → Answers looks (known_files files) (codes "rejoin" ∷ name ∷ others) response → SaysTheRows s rows response
  says_rows few response answered =
      let (ds, moved, beside) = zip_moved (IsTableFor s rows) tables hold.in_order design hold.moved zipped in
      let are_files = parts_are s rows over named files others hold.in_order ds hold.each beside
      (All-permutation (IsBack s) tables hold.in_order hold.moved back) (All-permutation (IsWell s) design ds moved well) in
      there_and_back s names plan rows tables (tables_of (map (part_for s rows) ds)) migrated.lossless migrated.readable
      migrated.are (have ds moved) migrated.planned migrated.legal migrated.tidy response
      (after_parts files s others (map (part_for s rows) ds) (JoinsTables s) response are_files
      (after_schema files name s (λ r. WithFiles (part_file r) (known_files files) others (λ ps. JoinsTables r (tables_of ps))) response file
      (rejoin_asks files name others looks response few answered)))

pub way_back : FilesAreRejoined
way_back files looks name others s names plan text rows tables response migrated file hold few answered =
    says_rows files looks name others s names plan text rows tables migrated file hold few response answered
