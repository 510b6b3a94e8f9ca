-- The elements of a table are read back, each alone: a column, a key, and a reference, which is passed over.
use Rattle.std.proofs.Common.{◌≡◌, ◌<◌, ◌+◌, ℕ, Bool, true, false, All, IsTrue, List, [], ◌∷◌, ◌++◌, map, length, refl, ap, ◌∙◌, arith, Option, Some, Ok}
use Rattle.std.specs.Prelude.{codes, nat_lt}
use Rattle.std.proofs.lemmas.Bool.Decides.{nat_tests}
use Rattle.std.proofs.lemmas.List.{length-map, map-append}
use Rattle.attr_sets.specs.declared.set.TheConstants.{MOST_ATTRIBUTES}
use Rattle.schema_model.specs.Columns.{is_column_type}
use Rattle.schema_model.specs.Names.{IsName}
use Rattle.schema_model.specs.declared.column_type.ColumnType.{ColumnType}
use Rattle.dep_model.specs.declared.theory.TheConstants.{MOST_DEPENDENCIES}
use Rattle.sql_syntax.specs.Names.{quoted_name}
use Rattle.sql_lexemes.specs.declared.dialect.Dialect.{Dialect}
use Rattle.sql_lexemes.specs.Lexemes.{Lexed}
use Rattle.sql_definitions.specs.Elements.{element, has_column_named, key_of_parts, named_column}
use Rattle.sql_definitions.specs.Facts.{Facts, Outcome, StatedColumn, StatedPart, state_key, then_read, with_column, with_key}
use Rattle.sql_definitions.specs.Lists.{lists_columns}
use Rattle.sql_definitions.specs.declared.definition.KeyKind.{KeyKind}
use Rattle.sql_definitions.specs.declared.definition.KeyKind.TheVariants.{Primary, Unique}
use Rattle.ddl_pieces.proofs.Cutting.{depth_append, depth_past}
use Rattle.ddl_pieces.specs.Pieces.{TextPiece, blank, lexemes_from, quoted_name_piece, type_pieces, word}
use Rattle.import_laws.specs.ReadTables.{NamedKey, named_key}
use Rattle.import_laws.specs.StatedTypes.{states_a_type, stay_within}
use Rattle.import_laws.proofs.ListLemmas.{bracketed, list_columns, list_end, list_inside, list_read}
use Rattle.import_laws.proofs.NameLemmas.{name_known}
use Rattle.import_laws.proofs.TypeLemmas.{after_name, column_lexemes, column_typed, type_end, type_reads}
use Rattle.import_laws.proofs.WithinLemmas.{pieces_within}

-- what is known of a table: its columns, and its keys by names
pub record Known : Type 0 where
  pub columns : List StatedColumn
  pub keys : List NamedKey

abbrev pub one_column : Known → StatedColumn → Known
one_column known column = record { columns = known.columns ++ column ∷ []; keys = known.keys }

abbrev pub one_key : Known → KeyKind → List (List ℕ) → Known
one_key known kind names = record {
  columns = known.columns;
  keys = known.keys ++ record { kind = kind; names = map Some names } ∷ [];
}

-- facts of a table that is found say what is known
pub record States (known : Known) (f : Facts) : Type 0 where
  pub found : f.found ≡ true
  pub columns : f.columns ≡ known.columns
  pub keys : map named_key f.keys ≡ known.keys

abbrev pub Reads : Outcome → Known → Type 0
Reads read known = (f : Facts) × (read ≡ Ok f) × States known f

-- an element that leads from what is known to more: it has a lexeme, none ends it, and it closes its brackets
pub record IsElement (d : Dialect) (before after : Known) (e : List TextPiece) : Type 0 where
  pub some : (place : ℕ) → (l : Lexed) × (ls : List Lexed) × (lexemes_from place 1 e ≡ l ∷ ls)
  pub inside : (place : ℕ) → stay_within 0 (lexemes_from place 1 e) ≡ true
  pub back : depth_past 1 e ≡ 1
  pub reads : (place end : ℕ) (f : Facts) → States before f → Reads (element d end (lexemes_from place 1 e) f) after

-- ---- columns
column_read : (d : Dialect) (known : Known) (name : List ℕ) (nullable : Bool) (column : ColumnType)
    → IsName name → IsTrue (states_a_type d column) → IsTrue (is_column_type column)
    → has_column_named known.columns name ≡ false → length known.columns < MOST_ATTRIBUTES
    → (place end : ℕ) (f : Facts) → States known f
    → Reads (element d end (lexemes_from place 1 (quoted_name_piece name ∷ after_name nullable (type_pieces column))) f)
    (one_column known (column_typed d name nullable column))
unfolding element lexemes_from
column_read d known name nullable column is stated typed free room place end f states =
    let at = place + length (quoted_name name) in
    let type = column_lexemes at nullable (type_pieces column) in
    let (keys, typing, inside) = type_reads d nullable column stated typed at in
    let here : has_column_named f.columns name ≡ false =
    ap (λ (cs : List StatedColumn). has_column_named cs name) states.columns ∙ free in
    let same : length f.columns ≡ length known.columns = ap (λ (cs : List StatedColumn). length cs) states.columns in
    let space : nat_lt (length f.columns) MOST_ATTRIBUTES ≡ true = grind (arith, nat_tests, same, room) in (
      with_column f (column_typed d name nullable column),
      ap (named_column d place type f) (name_known d place 1 name is)
          ∙ rw here (rw space (keys _ _ ∙ ap (λ (c : StatedColumn). Ok (with_column f c)) (typing name))),
      record {
        found = states.found;
        columns = ap (λ (cs : List StatedColumn). cs ++ column_typed d name nullable column ∷ []) states.columns;
        keys = states.keys;
      },
    )

column_inside : (d : Dialect) (name : List ℕ) (nullable : Bool) (column : ColumnType)
    → IsTrue (states_a_type d column) → IsTrue (is_column_type column) → (place : ℕ)
    → stay_within 0 (lexemes_from place 1
    (quoted_name_piece name ∷ after_name nullable (type_pieces column))) ≡ true
unfolding lexemes_from stay_within
column_inside d name nullable column stated typed place =
    let (keys, typing, inside) = type_reads d nullable column stated typed (place + length (quoted_name name)) in inside

pub column_element : (d : Dialect) (known : Known) (name : List ℕ) (nullable : Bool) (column : ColumnType)
    → IsName name → IsTrue (states_a_type d column) → IsTrue (is_column_type column)
    → has_column_named known.columns name ≡ false → length known.columns < MOST_ATTRIBUTES
    → IsElement d known (one_column known (column_typed d name nullable column))
    (quoted_name_piece name ∷ after_name nullable (type_pieces column))
unfolding lexemes_from
column_element d known name nullable column is stated typed free room = record {
  some = λ place. (_, _, refl);
  inside = column_inside d name nullable column stated typed;
  back = type_end d nullable column stated typed;
  reads = column_read d known name nullable column is stated typed free room;
}

-- ---- keys
key_stated : (known : Known) (kind : KeyKind) (names : List (List ℕ)) (place : ℕ) (parts : List StatedPart)
    (f : Facts)
    → length known.keys < MOST_DEPENDENCIES → map (λ part. part.name) parts ≡ map Some names → States known f
    → Reads (state_key kind place parts f) (one_key known kind names)
key_stated known kind names place parts f room same states =
    let named : map named_key (f.keys ++ record { kind = kind; parts = parts } ∷ [])
    ≡ (one_key known kind names).keys =
    map-append named_key f.keys (record { kind = kind; parts = parts } ∷ [])
    ∙ ap (λ (ks : List NamedKey). ks ++ named_key (record { kind = kind; parts = parts }) ∷ []) states.keys
    ∙ ap (λ (ns : List (Option (List ℕ))). known.keys ++ record { kind = kind; names = ns } ∷ []) same in
    let count : length (map named_key f.keys) ≡ length known.keys =
    ap (λ (ks : List NamedKey). length ks) states.keys in
    let each : length (map named_key f.keys) ≡ length f.keys = length-map f.keys named_key in
    let space : nat_lt (length f.keys) MOST_DEPENDENCIES ≡ true = grind (arith, nat_tests, count, each, room) in (
      with_key f kind parts,
      rw space refl,
      record { found = states.found; columns = states.columns; keys = named },
    )

abbrev pub primary_pieces : List (List ℕ) → List TextPiece
primary_pieces names = word (codes "PRIMARY") ∷ blank ∷ word (codes "KEY") ∷ blank ∷ bracketed names

abbrev pub unique_by : List (List ℕ) → List TextPiece
unique_by names = word (codes "UNIQUE") ∷ blank ∷ bracketed names

primary_read : (d : Dialect) (known : Known) (names : List (List ℕ)) → 0 < length names → All IsName names
    → length known.keys < MOST_DEPENDENCIES → (place end : ℕ) (f : Facts) → States known f
    → Reads (element d end (lexemes_from place 1 (primary_pieces names)) f) (one_key known Primary names)
unfolding element lexemes_from
primary_read d known [] some all room place end f states = absurd (omega (arith, some))
primary_read d known (name ∷ names) some all room place end f states =
    let (parts, read, same) = list_read d end ((((place + 7) + 1) + 3) + 1) name names all in
    let (g, stated, after) = key_stated known Primary (name ∷ names) place parts f room same states in
    let ls = lexemes_from ((((place + 7) + 1) + 3) + 1) 1 (bracketed (name ∷ names)) in (
      g,
      ap (λ r. then_read r (key_of_parts Primary place (lists_columns ls) f)) read
          ∙ ap (λ (b : Bool). key_of_parts Primary place b f parts)
          (list_columns ((((place + 7) + 1) + 3) + 1) name names) ∙ stated,
      after,
    )

unique_read : (d : Dialect) (known : Known) (names : List (List ℕ)) → 0 < length names → All IsName names
    → length known.keys < MOST_DEPENDENCIES → (place end : ℕ) (f : Facts) → States known f
    → Reads (element d end (lexemes_from place 1 (unique_by names)) f) (one_key known Unique names)
unfolding element lexemes_from
unique_read d known [] some all room place end f states = absurd (omega (arith, some))
unique_read d known (name ∷ names) some all room place end f states =
    let (parts, read, same) = list_read d end ((place + 6) + 1) name names all in
    let (g, stated, after) = key_stated known Unique (name ∷ names) place parts f room same states in
    let ls = lexemes_from ((place + 6) + 1) 1 (bracketed (name ∷ names)) in (
      g,
      ap (λ r. then_read r (key_of_parts Unique place (lists_columns ls) f)) read
          ∙ ap (λ (b : Bool). key_of_parts Unique place b f parts)
          (list_columns ((place + 6) + 1) name names) ∙ stated,
      after,
    )

pub primary_element : (d : Dialect) (known : Known) (names : List (List ℕ)) → 0 < length names → All IsName names
    → length known.keys < MOST_DEPENDENCIES → IsElement d known (one_key known Primary names) (primary_pieces names)
unfolding lexemes_from stay_within
primary_element d known names some all room = record {
  some = λ place. (_, _, refl);
  inside = λ place. list_inside ((((place + 7) + 1) + 3) + 1) names;
  back = list_end names;
  reads = primary_read d known names some all room;
}

pub unique_element : (d : Dialect) (known : Known) (names : List (List ℕ)) → 0 < length names → All IsName names
    → length known.keys < MOST_DEPENDENCIES → IsElement d known (one_key known Unique names) (unique_by names)
unfolding lexemes_from stay_within
unique_element d known names some all room = record {
  some = λ place. (_, _, refl);
  inside = λ place. list_inside ((place + 6) + 1) names;
  back = list_end names;
  reads = unique_read d known names some all room;
}

-- ---- references
abbrev pub after_referring : List ℕ → List (List ℕ) → List TextPiece
after_referring table names =
    blank ∷ word (codes "REFERENCES") ∷ blank ∷ quoted_name_piece table ∷ blank ∷ bracketed names

abbrev pub reference_by : List ℕ → List (List ℕ) → List TextPiece
reference_by table names =
    word (codes "FOREIGN") ∷ blank ∷ word (codes "KEY") ∷ blank ∷ (bracketed names ++ after_referring table names)

referring_inside : (table : List ℕ) (names : List (List ℕ)) (place : ℕ)
    → stay_within 0 (lexemes_from place 1 (after_referring table names)) ≡ true
unfolding lexemes_from stay_within
referring_inside table names place = list_inside ((((place + 1) + 10) + 1 + length (quoted_name table)) + 1) names

reference_inside : (table : List ℕ) (names : List (List ℕ)) (place : ℕ)
    → stay_within 0 (lexemes_from place 1 (reference_by table names)) ≡ true
unfolding lexemes_from stay_within
reference_inside table names place =
    pieces_within ((((place + 7) + 1) + 3) + 1) (bracketed names) (after_referring table names) (list_end names)
    (λ at. list_inside at names) (referring_inside table names)

reference_end : (table : List ℕ) (names : List (List ℕ)) → depth_past 1 (reference_by table names) ≡ 1
reference_end table names =
    depth_append 1 (bracketed names) (after_referring table names)
    ∙ ap (λ (n : ℕ). depth_past n (after_referring table names)) (list_end names) ∙ list_end names

pub reference_element : (d : Dialect) (known : Known) (table : List ℕ) (names : List (List ℕ))
    → IsElement d known known (reference_by table names)
unfolding element lexemes_from
reference_element d known table names = record {
  some = λ place. (_, _, refl);
  inside = reference_inside table names;
  back = reference_end table names;
  reads = λ place end f states. (f, refl, states);
}
