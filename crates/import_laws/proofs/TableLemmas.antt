-- The elements of a table of a design lead to its columns and its keys.
use Rattle.std.proofs.Common.{◌≡◌, ◌<◌, ◌≤◌, ◌+◌, ℕ, zero, suc, inl, inr, Bool, true, false, cond, All, IsTrue, List, [], ◌∷◌, ◌++◌, map, length, get_or, refl, sym, ap, subst, arith, append-nil, append_assoc, length-append}
use Rattle.std.specs.Prelude.{filter, slice_index_or}
use Rattle.std.proofs.lemmas.Bool.{cases_Bool}
use Rattle.std.proofs.lemmas.List.{length-map, map-append}
use Rattle.std.proofs.lemmas.List.Elements.{All-cons, All-head, All-map, All-nil, All-push, All-tail, All-weaker}
use Rattle.std.proofs.lemmas.List.Folds.{list_any_none}
use Rattle.attr_sets.specs.Attributes.{Attributes}
use Rattle.attr_sets.specs.Sets.{attributes}
use Rattle.attr_sets.specs.declared.set.TheConstants.{MOST_ATTRIBUTES}
use Rattle.dep_model.proofs.SchemeLemmas.{members_below-member, members_below-none, members_below-outside}
use Rattle.schema_model.specs.Names.{IsName, same_name}
use Rattle.dep_model.specs.Projections.{members_below}
use Rattle.schema_model.specs.Schemas.{names_of, types_of, width_of}
use Rattle.schema_model.specs.declared.column_type.ColumnType.TheVariants as type
use Rattle.schema_model.specs.Schemas.{Schema}
use Rattle.dep_model.specs.declared.theory.TheConstants.{MOST_DEPENDENCIES}
use Rattle.schema_printer.specs.Printing.{members_from}
use Rattle.ddl_text.specs.Ddl.{elements_made, is_empty, is_never_missing}
use Rattle.ddl_text.specs.Designs.{known_keys}
use Rattle.ddl_text.specs.declared.table.TableDesign.{TableDesign}
use Rattle.sql_lexemes.specs.declared.dialect.Dialect.{Dialect}
use Rattle.sql_definitions.specs.Elements.{has_column_named}
use Rattle.sql_definitions.specs.Facts.{StatedColumn}
use Rattle.sql_definitions.specs.declared.definition.KeyKind.TheVariants.{Primary, Unique}
use Rattle.ddl_pieces.proofs.Designed.{column_pieces, elements_same, key_pieces, keys_pieces, nullable_in, reference_pieces, unique_pieces}
use Rattle.ddl_pieces.specs.Pieces.{TextPiece, element_pieces}
use Rattle.import_laws.specs.ReadTables.{NamedKey, key_named, read_column, read_columns, read_keys}
use Rattle.import_laws.specs.StatedTypes.{states_a_type}
use Rattle.import_laws.proofs.ChainLemmas.{Leads, leads_append}
use Rattle.import_laws.proofs.ElementLemmas.{Known, column_element, one_column, primary_element, reference_element, unique_element}

-- the names of a schema are names, and its types are stated by their texts
pub record IsPrinted (d : Dialect) (s : Schema) : Type 0 where
  pub names : All IsName (names_of s)
  pub types : All (λ column. IsTrue (states_a_type d column)) (types_of s)

-- a key has a column
abbrev pub HasColumn : Schema → Attributes → Type 0
HasColumn s key = 0 < length (members_from key 0 (names_of s))

abbrev stated_others : Schema → TableDesign → List Attributes
stated_others s table = filter (is_never_missing s) (known_keys table.other_keys)

-- the elements of a table can be read: its keys have columns and are not too many
pub record IsReadable (s : Schema) (table : TableDesign) : Type 0 where
  pub key : is_empty (attributes table.key) ≡ false → HasColumn s (attributes table.key)
  pub others : All (HasColumn s) (filter (is_never_missing s) (known_keys table.other_keys))
  pub limit : 1 + length (filter (is_never_missing s) (known_keys table.other_keys)) ≤ MOST_DEPENDENCIES

abbrev pub known_by : List StatedColumn → List NamedKey → Known
known_by columns keys = record { columns = columns; keys = keys }

-- ---- columns
members_low : (n : ℕ) (x : Attributes) → All (λ k. k < n) (members_below n x) × (length (members_below n x) ≤ n)
members_low zero x =
    subst (λ (ms : List ℕ). All (λ k. k < 0) ms × (length ms ≤ 0)) (sym (members_below-none x))
    (All-nil (λ k. k < 0), omega arith)
members_low (suc n) x =
    let (low, few) = members_low n x in
    let wider = All-weaker (λ k. k < n) (λ k. k < suc n) (λ k small. omega (arith, small)) (members_below n x) low in
    elim (cases_Bool (x n)) [
      | inl inside ↦ subst (λ (ms : List ℕ). All (λ k. k < suc n) ms × (length ms ≤ suc n))
          (sym (members_below-member n x inside)) (
            All-push (λ k. k < suc n) (members_below n x) n wider (omega arith),
            let size : length (members_below n x ++ n ∷ []) ≡ length (members_below n x) + 1 =
                length-append (members_below n x) (n ∷ []) in
                omega (arith, few, size),
          )
      | inr outside ↦ subst (λ (ms : List ℕ). All (λ k. k < suc n) ms × (length ms ≤ suc n))
          (sym (members_below-outside n x outside)) (
            wider,
            omega (arith, few),
          )
    ]

-- the name of an attribute is none of those before it
name_free : (d : Dialect) (s : Schema) (table : TableDesign) (x : Attributes) (n : ℕ) → n < width_of s
    → has_column_named (map (read_column d s table) (members_below n x)) (slice_index_or (names_of s) n []) ≡ false
name_free d s table x n low =
    list_any_none (λ (c : StatedColumn). same_name c.name (slice_index_or (names_of s) n []))
    (map (read_column d s table) (members_below n x))
    (All-map (λ (c : StatedColumn). same_name c.name (slice_index_or (names_of s) n []) ≡ false)
    (read_column d s table) (members_below n x)
    (All-weaker (λ k. k < n) (λ k. same_name (slice_index_or (names_of s) k [])
    (slice_index_or (names_of s) n []) ≡ false)
    (λ k less. s.valid.names_differ k n [] less low) (members_below n x) (members_low n x).0))

abbrev LeadsColumns : Dialect → Schema → TableDesign → List ℕ → Type 0
LeadsColumns d s table ms =
    Leads d (known_by [] []) (known_by (map (read_column d s table) ms) []) (map (column_pieces s (nullable_in s table)) ms)

columns_lead : (d : Dialect) (s : Schema) (table : TableDesign) → IsPrinted d s → (x : Attributes) (n : ℕ) → n ≤ width_of s
    → LeadsColumns d s table (members_below n x)
columns_lead d s table is x zero low = subst (LeadsColumns d s table) (sym (members_below-none x)) refl
columns_lead d s table is x (suc n) low =
    let before = columns_lead d s table is x n (omega (arith, low)) in
    elim (cases_Bool (x n)) [
      | inl inside ↦ subst (LeadsColumns d s table) (sym (members_below-member n x inside)) (with_last before)
      | inr outside ↦ subst (LeadsColumns d s table) (sym (members_below-outside n x outside)) before
    ]
  where
    ms : List ℕ
    ms = members_below n x

    known : Known
    known = known_by (map (read_column d s table) ms) []

    within : n < width_of s
    within = omega (arith, low)

    typed : n < length (types_of s)
    typed = let same = s.typed.one_each in omega (arith, within, same)

    room : length (map (read_column d s table) ms) < MOST_ATTRIBUTES
    room =
        let few = (members_low n x).1 in
        let limit = s.valid.names_within_limit in
        let size : length (map (read_column d s table) ms) ≡ length ms = length-map ms (read_column d s table) in
        omega (arith, few, size, limit, within)

    pieces : ℕ → List TextPiece
    pieces = column_pieces s (nullable_in s table)

    with_last : LeadsColumns d s table ms → LeadsColumns d s table (ms ++ n ∷ [])
    with_last before =
        let last = column_element d known (slice_index_or (names_of s) n []) (nullable_in s table n)
        (slice_index_or (types_of s) n type.Text)
        (is.names n [] within) (is.types n type.Text typed) (s.typed.each n type.Text typed)
        (name_free d s table x n within) room in
        let after = one_column known (read_column d s table n) in
        let whole = leads_append d (known_by [] []) known after (map pieces ms)
        (pieces n ∷ []) before (after, last, refl) in
        subst (λ (es : List (List TextPiece)). Leads d (known_by [] [])
        (known_by (map (read_column d s table) (ms ++ n ∷ [])) []) es)
        (sym (map-append pieces ms (n ∷ [])))
        (subst (λ (cs : List StatedColumn). Leads d (known_by [] []) (known_by cs [])
        (map pieces ms ++ pieces n ∷ []))
        (sym (map-append (read_column d s table) ms (n ∷ []))) whole)

-- ---- keys
key_names : (s : Schema) → All IsName (names_of s) → (x : Attributes) (k : ℕ)
    → All IsName (members_from x k (names_of s))
key_names s all x k = chosen (names_of s) k all
  where
    chosen : (names : List (List ℕ)) (k : ℕ) → All IsName names → All IsName (members_from x k names)
    chosen [] k all = All-nil IsName
    chosen (name ∷ names) k all = by_member (x k) (chosen names (k + 1) (All-tail IsName name names all))
      where
        by_member : (b : Bool) → All IsName (members_from x (k + 1) names)
            → All IsName (cond b (name ∷ members_from x (k + 1) names) (members_from x (k + 1) names))
        by_member true rest = All-cons IsName name (members_from x (k + 1) names)
            (All-head IsName name names all) rest
        by_member false rest = rest

others_lead : (d : Dialect) (s : Schema) → IsPrinted d s
    → (columns : List StatedColumn) (before : List NamedKey) (keys : List Attributes)
    → All (HasColumn s) keys → length before + length keys ≤ MOST_DEPENDENCIES
    → Leads d (known_by columns before) (known_by columns (before ++ map (key_named s Unique) keys))
    (map (unique_pieces s) keys)
others_lead d s is columns before [] have limit = ap (known_by columns) (sym (append-nil before))
others_lead d s is columns before (key ∷ keys) have limit =
    let more = key_named s Unique key in
    let size : length (before ++ more ∷ []) ≡ length before + 1 = length-append before (more ∷ []) in
    let rest = others_lead d s is columns (before ++ more ∷ []) keys (All-tail (HasColumn s) key keys have)
    (omega (arith, size, limit)) in (
      known_by columns (before ++ more ∷ []),
      unique_element d (known_by columns before) (members_from key 0 (names_of s))
          (All-head (HasColumn s) key keys have)
          (key_names s is.names key 0) (omega (arith, limit)),
      subst (λ (ks : List NamedKey). Leads d (known_by columns (before ++ more ∷ [])) (known_by columns ks)
          (map (unique_pieces s) keys))
          (append_assoc before (more ∷ []) (map (key_named s Unique) keys)) rest,
    )

keys_lead : (d : Dialect) (s : Schema) (tables : List TableDesign) (table : TableDesign) → IsPrinted d s
    → IsReadable s table
    → (columns : List StatedColumn)
    → Leads d (known_by columns []) (known_by columns (read_keys s table)) (keys_pieces s table)
keys_lead d s tables table is readable columns = by_key (is_empty (attributes table.key)) refl
  where
    others : List Attributes
    others = stated_others s table

    limit : 1 + length others ≤ MOST_DEPENDENCIES
    limit = readable.limit

    by_key : (b : Bool) → is_empty (attributes table.key) ≡ b
        → Leads d (known_by columns [])
        (known_by columns (cond b [] (key_named s Primary (attributes table.key) ∷ []) ++ map
        (key_named s Unique) others))
        (cond b [] (key_pieces s (attributes table.key) ∷ []) ++ map (unique_pieces s) others)
    by_key true empty = others_lead d s is columns [] others readable.others (omega (arith, limit))
    by_key false some = (
      known_by columns (key_named s Primary (attributes table.key) ∷ []),
      primary_element d (known_by columns []) (members_from (attributes table.key) 0 (names_of s)) (readable.key some)
          (key_names s is.names (attributes table.key) 0) (omega arith),
      others_lead d s is columns (key_named s Primary (attributes table.key) ∷ []) others readable.others limit,
    )

-- ---- references
refs_lead : (d : Dialect) (s : Schema) (known : Known) (tables : List TableDesign) (table : TableDesign) (refs : List ℕ)
    → Leads d known known (map (λ j. reference_pieces s (get_or tables j table)) refs)
refs_lead d s known tables table [] = refl
refs_lead d s known tables table (j ∷ refs) =
    let other = get_or tables j table in (
      known,
      reference_element d known other.name (members_from (attributes other.key) 0 (names_of s)),
      refs_lead d s known tables table refs,
    )

-- ---- all elements
pub table_leads : (d : Dialect) (s : Schema) (tables : List TableDesign) (table : TableDesign) → IsPrinted d s
    → IsReadable s table
    → Leads d (known_by [] []) (known_by (read_columns d s table) (read_keys s table))
    (map element_pieces (elements_made s tables table))
table_leads d s tables table is readable =
    let columns = read_columns d s table in
    let known = known_by columns (read_keys s table) in
    let named = map (column_pieces s (nullable_in s table)) (members_below (width_of s) (attributes table.scheme)) in
    let referring = map (λ j. reference_pieces s (get_or tables j table)) table.refs.items in
    subst (λ (es : List (List TextPiece)). Leads d (known_by [] []) known es) (sym (elements_same s tables table))
    (leads_append d (known_by [] []) known known (named ++ keys_pieces s table) referring
    (leads_append d (known_by [] []) (known_by columns []) known named (keys_pieces s table)
    (columns_lead d s table is (attributes table.scheme) (width_of s) (omega arith))
    (keys_lead d s tables table is readable columns))
    (refs_lead d s known tables table table.refs.items))
