-- The schema that is imported of a table of a design: what its text declares.
use Rattle.std.proofs.Common.{◌≡◌, ◌<◌, ◌≤◌, ◌&&◌, ◌||◌, ◌++◌, ℕ, Bool, true, false, cond, not, All, AllPairs, List, [], ◌∷◌, map, length, get_or, refl, sym, ap, subst, ◌∙◌, arith, Option, Some, None, Result, Ok}
use Rattle.std.specs.Prelude.{filter, option_map, slice_get, slice_index_or}
use Rattle.std.proofs.lemmas.Bool.{and_left, and_right, false_from_ne_true, true≢false}
use Rattle.std.proofs.lemmas.Bool.Decides.{nat_tests}
use Rattle.std.proofs.lemmas.List.{length-map}
use Rattle.std.proofs.lemmas.List.Elements.{All-cons, All-filter, All-map, filter_passes}
use Rattle.std.proofs.lemmas.List.Folds.{list_any_none}
use Rattle.std.proofs.lemmas.List.Kept.{AllPairs-filter}
use Rattle.std.proofs.lemmas.Option.{slice_get-map}
use Rattle.std.proofs.lemmas.Simd.{map-map}
use Rattle.attr_sets.proofs.AttributesLemmas.{is_disjoint-from, is_disjoint-true, is_same-from}
use Rattle.attr_sets.specs.Attributes.{Attributes, Disjoint, IsSubset, below, difference}
use Rattle.attr_sets.specs.Sets.{attributes, is_same}
use Rattle.attr_sets.specs.declared.set.TheConstants.{MOST_ATTRIBUTES}
use Rattle.schema_model.specs.Schemas.{names_of, nullable_of, types_of, width_of}
use Rattle.schema_model.specs.declared.column_type.ColumnType.TheVariants as type
use Rattle.schema_model.specs.declared.naming.Naming.TheVariants.{Any}
use Rattle.schema_model.specs.Schemas.{Schema}
use Rattle.schema_grammar.specs.Schemas.{MeansSchema}
use Rattle.ddl_text.specs.Ddl.{is_empty, is_never_missing}
use Rattle.ddl_text.specs.Designs.{known_keys}
use Rattle.ddl_text.specs.declared.table.TableDesign.{TableDesign}
use Rattle.sql_lexemes.specs.declared.dialect.Dialect.{Dialect}
use Rattle.sql_definitions.specs.declared.definition.KeyKind.TheVariants.{Primary, Unique}
use Rattle.sql_definitions.specs.Definitions.{definition_of}
use Rattle.sql_definitions.specs.Facts.{Facts, Outcome, StatedColumn}
use Rattle.sql_definitions.specs.Wanted.{TableName}
use Rattle.sql_definitions.specs.declared.refusal.Refusal.{Refusal}
use Rattle.sql_schemas.proofs.LawLemmas.{text_means}
use Rattle.sql_schemas.proofs.ReadLemmas.{definition_reads}
use Rattle.sql_schemas.specs.Keys.{KeyColumns, and_then, compares_missing, is_dependency, is_primary, key_dependency, new_keys}
use Rattle.sql_schemas.specs.Meaning.{declared_table, whole_keys}
use Rattle.sql_schemas.specs.Texts.{column_names, column_types, columns_missing, imported_text, is_bound, says_nothing, table_text, text_of_facts}
use Rattle.import_laws.specs.ImportedTables.{columns_of, determines_others, has, imported_keys, imported_table, places_in, declared_keys}
use Rattle.import_laws.specs.ReadTables.{NamedKey, StatesTable, key_named, named_key, read_column, read_columns, read_keys, read_nullable}
use Rattle.import_laws.specs.StatedTypes.{read_type}
use Rattle.import_laws.proofs.FitLemmas.{IsFit}
use Rattle.import_laws.proofs.KeyLemmas.{Apart, dependencies_same, has_others, keys_read, new_are, part_names, set_names}
use Rattle.import_laws.proofs.PairLemmas.{all_back, keep_all, pairs_back, pairs_cons, pairs_map}
use Rattle.import_laws.proofs.PlaceLemmas.{places_apart, places_disjoint}

or_true : (a : Bool) {b : Bool} → b ≡ true → (a || b) ≡ true
or_true true is = refl
or_true false is = is

module _ (s : Schema) (table : TableDesign) (fit : IsFit s table) where
  few : width_of s ≤ MOST_ATTRIBUTES
  few = s.valid.names_within_limit

  -- ---- the keys that are stated
  pub record IsStated (x : Attributes) : Type 0 where
    pub within : IsSubset x (attributes table.scheme)
    pub never_missing : Disjoint x (difference (nullable_of s) (attributes table.key))

  key_never : Disjoint (attributes table.key) (difference (nullable_of s) (attributes table.key))
  key_never a member = and_right (nullable_of s a) (not (attributes table.key a)) (ap not member)

  others_stated : All IsStated (filter (is_never_missing s) (known_keys table.other_keys))
  others_stated i d low =
      let is = All-filter (is_never_missing s) (λ x. IsSubset x (attributes table.scheme))
      (known_keys table.other_keys)
      (λ j e less. (fit.others j e less).within) i d low in
      let pass = filter_passes (is_never_missing s) (known_keys table.other_keys) i d low in record {
        within = is;
        never_missing = λ a member. and_left (nullable_of s a) (not (attributes table.key a))
            (is_disjoint-true
            (get_or (filter (is_never_missing s) (known_keys table.other_keys)) i d) (nullable_of s)
            (λ b there. bounded b (fit.within b (is b there))) pass a member);
      }
    where
      bounded : (a : ℕ) → below (width_of s) a ≡ true → below MOST_ATTRIBUTES a ≡ true
      bounded a low = grind (arith, nat_tests, low, few)

  pub stated_are : All IsStated (declared_keys s table)
  stated_are = by_key (is_empty (attributes table.key))
    where
      by_key : (b : Bool) → All IsStated
          (cond b [] (attributes table.key ∷ []) ++ filter (is_never_missing s) (known_keys table.other_keys))
      by_key true = others_stated
      by_key false =
          All-cons IsStated (attributes table.key) (filter (is_never_missing s) (known_keys table.other_keys))
          (record { within = fit.key; never_missing = key_never }) others_stated

  pub stated_names : map (λ (key : NamedKey). key.names) (read_keys s table) ≡ map (set_names s) (declared_keys s table)
  stated_names = by_key (is_empty (attributes table.key))
    where
      rest : map (λ (key : NamedKey). key.names)
          (map (key_named s Unique) (filter (is_never_missing s) (known_keys table.other_keys)))
          ≡ map (set_names s) (filter (is_never_missing s) (known_keys table.other_keys))
      rest = map-map (λ (key : NamedKey). key.names) (key_named s Unique)
          (filter (is_never_missing s) (known_keys table.other_keys))

      by_key : (b : Bool)
          → map (λ (key : NamedKey). key.names) (cond b [] (key_named s Primary (attributes table.key) ∷ [])
          ++ map (key_named s Unique) (filter (is_never_missing s) (known_keys table.other_keys)))
          ≡ map (set_names s) (cond b [] (attributes table.key ∷ []) ++ filter (is_never_missing s)
          (known_keys table.other_keys))
      by_key true = rest
      by_key false = ap (λ (ns : List (List (Option (List ℕ)))). set_names s (attributes table.key) ∷ ns) rest

  -- different keys have different places
  others_apart : AllPairs (λ x y. is_same (places_in (columns_of s table) x) (places_in (columns_of s table) y)
      ≡ false)
      (filter (is_never_missing s) (known_keys table.other_keys))
  others_apart i j d less low =
      let xs = filter (is_never_missing s) (known_keys table.other_keys) in
      let first : i < length xs = omega (arith, less, low) in
      places_apart (width_of s) (attributes table.scheme) (get_or xs i d) (get_or xs j d) few fit.within
      (others_stated i d first).within (others_stated j d low).within
      (AllPairs-filter (λ x y. x ≡ y → ⊥) (is_never_missing s)
      (known_keys table.other_keys) fit.differ i j d less low)

  key_apart : All (λ x. is_same (places_in (columns_of s table) (attributes table.key))
      (places_in (columns_of s table) x) ≡ false)
      (filter (is_never_missing s) (known_keys table.other_keys))
  key_apart i d low =
      let xs = filter (is_never_missing s) (known_keys table.other_keys) in
      let far = All-filter (is_never_missing s) (λ x. is_same x (attributes table.key) ≡ false)
      (known_keys table.other_keys)
      (λ j e less. (fit.others j e less).apart) i d low in
      places_apart (width_of s) (attributes table.scheme) (attributes table.key)
      (get_or xs i d) few fit.within fit.key
      (others_stated i d low).within
      (λ same. true≢false (sym (is_same-from (get_or xs i d) (attributes table.key) (sym same)) ∙ far))

  pub stated_apart : AllPairs (λ x y. is_same (places_in (columns_of s table) x)
      (places_in (columns_of s table) y) ≡ false) (declared_keys s table)
  stated_apart = by_key (is_empty (attributes table.key))
    where
      by_key : (b : Bool) → AllPairs (λ x y. is_same (places_in (columns_of s table) x)
          (places_in (columns_of s table) y) ≡ false)
          (cond b [] (attributes table.key ∷ []) ++ filter (is_never_missing s) (known_keys table.other_keys))
      by_key true = others_apart
      by_key false =
          pairs_cons (λ x y. is_same (places_in (columns_of s table) x) (places_in (columns_of s table) y) ≡ false)
          (attributes table.key) (filter (is_never_missing s) (known_keys table.other_keys)) key_apart others_apart

  -- ---- keys of these places
  module _ (d : Dialect) (keys : List KeyColumns)
      (are : map (λ key. key.columns) keys ≡ map (places_in (columns_of s table)) (declared_keys s table)) where
    never_read : (x : Attributes) → IsStated x → Disjoint x (read_nullable d s table)
    never_read x is a member =
        rw (is.never_missing a member) refl

    pub keys_never : All (λ (key : KeyColumns). Disjoint key.columns
        (places_in (columns_of s table) (read_nullable d s table))) keys
    keys_never =
        all_back (λ (key : KeyColumns). key.columns)
        (λ c. Disjoint c (places_in (columns_of s table) (read_nullable d s table))) keys
        (subst (All (λ c. Disjoint c (places_in (columns_of s table) (read_nullable d s table)))) (sym are)
        (All-map (λ c. Disjoint c (places_in (columns_of s table) (read_nullable d s table)))
        (places_in (columns_of s table)) (declared_keys s table)
        (λ i e low. places_disjoint (width_of s) (attributes table.scheme) (get_or (declared_keys s table) i e)
        (read_nullable d s table)
        (never_read (get_or (declared_keys s table) i e) (stated_are i e low)))))

    pub keys_apart : AllPairs Apart keys
    keys_apart =
        pairs_back (λ (key : KeyColumns). key.columns) (λ x y. is_same x y ≡ false) keys
        (subst (AllPairs (λ x y. is_same x y ≡ false)) (sym are)
        (pairs_map (places_in (columns_of s table)) (λ x y. is_same x y ≡ false) (declared_keys s table) stated_apart))

    -- a value may be missing exactly in the nullable columns
    missing_at : (j : ℕ) → columns_missing (read_columns d s table) keys j
        ≡ places_in (columns_of s table) (read_nullable d s table) j
    missing_at j =
        ap (λ (o : Option StatedColumn). says_nothing o && not (is_bound keys j))
        (slice_get-map (read_column d s table) (columns_of s table) j)
        ∙ by_column (slice_get (columns_of s table) j) refl
      where
        unbound : (b : ℕ) → slice_get (columns_of s table) j ≡ Some b → read_nullable d s table b ≡ true
            → is_bound keys j ≡ false
        unbound b at nullable =
            list_any_none (λ (key : KeyColumns). is_primary key.kind && key.columns j) keys (λ i e low.
            let key = get_or keys i e in
            either (is_primary key.kind) (key.columns j) (false_from_ne_true (key.columns j) (λ member.
            true≢false (sym nullable ∙ sym (ap (has (read_nullable d s table)) at) ∙ keys_never i e low j member))))
          where
            either : (b c : Bool) → c ≡ false → (b && c) ≡ false
            either true c is = is
            either false c is = refl

        by_nullable : (b : ℕ) → slice_get (columns_of s table) j ≡ Some b → (v : Bool) → read_nullable d s table b ≡ v
            → (not (not v) && not (is_bound keys j)) ≡ v
        by_nullable b at true is = ap not (unbound b at is)
        by_nullable b at false is = refl

        by_column : (o : Option ℕ) → slice_get (columns_of s table) j ≡ o
            → (says_nothing (option_map (read_column d s table) o) && not (is_bound keys j)) ≡ has (read_nullable d s table) o
        by_column None at = refl
        by_column (Some b) at = by_nullable b at (read_nullable d s table b) refl

    pub missing_are : columns_missing (read_columns d s table) keys
        ≡ places_in (columns_of s table) (read_nullable d s table)
    missing_are = λ i j. missing_at j i

    -- the dependencies that are declared
    pub dependencies_are : (f : Facts) → f.columns ≡ read_columns d s table
        → map (key_dependency (length f.columns)) (whole_keys f.columns keys)
        ≡ map (λ x. determines_others (length (columns_of s table)) (places_in (columns_of s table) x))
        (imported_keys s table)
    dependencies_are f columns =
        let size : length f.columns ≡ length (columns_of s table) =
        ap (λ (cs : List StatedColumn). length cs) columns ∙ length-map (columns_of s table) (read_column d s table) in
        let none_missing : columns_missing f.columns keys ≡ places_in (columns_of s table) (read_nullable d s table) =
        ap (λ (cs : List StatedColumn). columns_missing cs keys) columns ∙ missing_are in
        let m = length (columns_of s table) in
        ap (λ (n : ℕ). map (key_dependency n)
        (filter (is_dependency (columns_missing f.columns keys))
        (new_keys n (columns_missing f.columns keys) [] keys))) size
        ∙ ap (λ (x : Attributes). map (key_dependency m) (filter (is_dependency x) (new_keys m x [] keys)))
        none_missing
        ∙ ap (λ (ks : List KeyColumns). map (key_dependency m)
        (filter (is_dependency (places_in (columns_of s table) (read_nullable d s table))) ks))
        (new_are m (places_in (columns_of s table) (read_nullable d s table)) [] keys keys_apart (λ i e low. refl))
        ∙ ap (map (key_dependency m)) (keep_all (is_dependency (places_in (columns_of s table) (read_nullable d s table)))
        (filter (has_others m) keys)
        (All-filter (has_others m) (λ (key : KeyColumns). is_dependency
        (places_in (columns_of s table) (read_nullable d s table)) key ≡ true) keys
        (λ i e low. or_true (compares_missing (get_or keys i e).kind)
        (is_disjoint-from (get_or keys i e).columns (places_in (columns_of s table) (read_nullable d s table))
        (keys_never i e low)))))
        ∙ dependencies_same (width_of s) (attributes table.scheme) few fit.within keys (declared_keys s table) are

  -- ---- the text that is imported
  pub facts_imported : (d : Dialect) (wanted : TableName) (text : List ℕ) (f : Facts)
      → definition_of d wanted text ≡ Ok f
      → StatesTable d s table f
      → (printed : List ℕ) × (lines : List ℕ) × (imported_text d wanted text ≡ Ok printed)
      × MeansSchema printed (imported_table d s table lines)
  facts_imported d wanted text f defined states =
      let named : map part_names f.keys ≡ map (set_names s) (declared_keys s table) =
      sym (map-map (λ (key : NamedKey). key.names) named_key f.keys)
      ∙ ap (map (λ (key : NamedKey). key.names)) states.keys ∙ stated_names in
      let (keys, read, are) = keys_read d s table (attributes table.scheme) f fit.within states.columns [] f.keys
      (declared_keys s table)
      (λ i e low. (stated_are i e low).within) named in
      let is = definition_reads d wanted text f defined in
      let (lines, means) = text_means f keys is.fine.columns is.some is.fine.keys read in (
        table_text f.columns keys,
        lines,
        ap (λ (o : Outcome). and_then o text_of_facts) defined
            ∙ ap (λ (o : Result (List KeyColumns) Refusal). and_then o (λ ks. Ok (table_text f.columns ks))) read,
        declared f states keys are lines means,
      )
    where
      declared : (f : Facts) → StatesTable d s table f → (keys : List KeyColumns)
          → map (λ key. key.columns) keys ≡ map (places_in (columns_of s table)) (declared_keys s table)
          → (lines : List ℕ)
          → MeansSchema (table_text f.columns keys) (declared_table f.columns keys lines)
          → MeansSchema (table_text f.columns keys) (imported_table d s table lines)
      declared f states keys are lines means =
          let names : column_names f.columns ≡ map (λ a. slice_index_or (names_of s) a []) (columns_of s table) =
          ap column_names states.columns ∙ map-map (λ (c : StatedColumn). c.name) (read_column d s table)
          (columns_of s table) in
          let types : column_types f.columns
          ≡ map (λ a. read_type d (slice_index_or (types_of s) a type.Text)) (columns_of s table) =
          ap column_types states.columns ∙ map-map (λ (c : StatedColumn). c.kind) (read_column d s table)
          (columns_of s table) in
          let deps = dependencies_are d keys are f states.columns in
          let nullable : columns_missing f.columns keys ≡ places_in (columns_of s table) (read_nullable d s table) =
          ap (λ (cs : List StatedColumn). columns_missing cs keys) states.columns ∙ missing_are d keys are in
          let same : declared_table f.columns keys lines ≡ imported_table d s table lines =
          (λ i. record {
            names = names i;
            columns = types i;
            deps = deps i;
            lines = lines;
            naming = Any;
            nullable = nullable i;
          }) in
          subst (MeansSchema (table_text f.columns keys)) same means
