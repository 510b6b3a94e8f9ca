-- The pieces of a statement stand right, and close the brackets that they open.
use Rattle.std.proofs.Common.{◌≡◌, ◌+◌, ◌<◌, ℕ, Bool, true, false, All, IsTrue, List, [], ◌∷◌, ◌++◌, length, get_or, map, filter, refl, sym, ap, subst, ◌∙◌, ⊎_elim, arith}
use Rattle.std.specs.Prelude.{codes, if◌then◌else◌}
use Rattle.std.proofs.lemmas.Bool.{cases_lt}
use Rattle.std.proofs.lemmas.List.{get_or_past}
use Rattle.std.proofs.lemmas.List.Elements.{All-append, All-cons, All-get_or, All-head, All-map, All-nil, All-tail}
use Rattle.attr_sets.specs.Attributes.{Attributes}
use Rattle.attr_sets.specs.Sets.{attributes}
use Rattle.dep_model.specs.Projections.{members_below}
use Rattle.schema_model.specs.Schemas.{names_of, types_of, width_of}
use Rattle.schema_model.specs.declared.column_type.ColumnType.{ColumnType}
use Rattle.schema_model.specs.declared.column_type.ColumnType.TheVariants as type
use Rattle.schema_model.specs.Schemas.{Schema}
use Rattle.schema_printer.specs.Printing.{members_from}
use Rattle.sql_lexemes.specs.declared.dialect.Dialect.{Dialect}
use Rattle.sql_syntax.specs.Names.{quoted_name}
use Rattle.ddl_text.specs.Ddl.{is_empty, is_never_missing, elements_made}
use Rattle.ddl_text.specs.Designs.{known_keys}
use Rattle.ddl_text.specs.declared.table.TableDesign.{TableDesign}
use Rattle.ddl_pieces.specs.Pieces.{TextPiece, blank, create_pieces, element_pieces, gap, is_sound_type, lines_after, lines_pieces, mark, not_null, quoted_name_piece, text_of, type_pieces, word}
use Rattle.ddl_pieces.proofs.Designed.{column_pieces, columns_pieces, elements_pieces, elements_same, key_pieces, keys_pieces, list_pieces, name_pieces, names_after, nullable_in, reference_pieces, references_pieces, unique_pieces, valid_type}
use Rattle.ddl_pieces.proofs.Cutting.{AreRight, depth_append, depth_past, right_append}
use Rattle.ddl_pieces.proofs.Fronts.{IsEmptyOrParting, closes, name_then, opens, parts, quoted_right, word_right, word_then}
use Rattle.ddl_pieces.proofs.Types.{IsSound, type_depth, type_right}

-- pieces stand right before what parts lexemes, and close the brackets that they open
pub record IsElement (d : Dialect) (ps : List TextPiece) : Type 0 where
  pub right : (rest : List ℕ) → IsEmptyOrParting rest → AreRight d ps rest
  pub depth : (n : ℕ) → depth_past n ps ≡ n

-- all types of columns are sound
abbrev pub AreSound : Dialect → Schema → Type 0
AreSound d s = All (λ column. IsTrue (is_sound_type d column)) (types_of s)

-- ---- columns
type_at : (d : Dialect) (s : Schema) (k : ℕ) → AreSound d s
    → IsSound d (get_or (types_of s) k type.Text)
type_at d s k sound = record {
  sound = ⊎_elim
      (λ (here : k < length (types_of s)).
      All-get_or (λ column. IsTrue (is_sound_type d column)) (types_of s) k type.Text here sound)
      (λ past. subst (λ (column : ColumnType). IsTrue (is_sound_type d column)) (sym (get_or_past (types_of s) k type.Text past)) refl)
      (cases_lt k (length (types_of s)));
  valid = valid_type s k;
}

abbrev missing : Bool → List TextPiece
missing nullable = if nullable then [] else not_null

missing_right : (d : Dialect) (nullable : Bool) (rest : List ℕ) → IsEmptyOrParting rest
    → AreRight d (missing nullable) rest
missing_right d true rest parted = tt
missing_right d false rest parted =
    let last = word_right d (codes "NULL") rest refl parted in
    (refl, word_then d (codes "NOT") (word (codes "NULL") ∷ []) rest refl (last, tt))

missing_parted : (nullable : Bool) (rest : List ℕ) → IsEmptyOrParting rest
    → IsEmptyOrParting (text_of (missing nullable) ++ rest)
missing_parted true rest parted = parted
missing_parted false rest parted = refl

missing_depth : (nullable : Bool) (n : ℕ) → depth_past n (missing nullable) ≡ n
missing_depth true n = refl
missing_depth false n = refl

column_is : (d : Dialect) (s : Schema) → AreSound d s → (nullables : Attributes) (k : ℕ) → IsElement d (column_pieces s nullables k)
column_is d s sound nullables k = record {
  right = λ rest parted. name_then d (get_or (names_of s) k []) (type_pieces column ++ missing nullable) rest
      (right_append d (type_pieces column) (missing nullable) rest
      (type_right d column (text_of (missing nullable) ++ rest) is (missing_parted nullable rest parted))
      (missing_right d nullable rest parted));
  depth = λ n. depth_append n (type_pieces column) (missing nullable)
      ∙ ap (λ (m : ℕ). depth_past m (missing nullable)) (type_depth d column n is.sound)
      ∙ missing_depth nullable n;
}
  where
    column : ColumnType
    column = get_or (types_of s) k type.Text

    nullable : Bool
    nullable = nullables k

    is : IsSound d column
    is = type_at d s k sound

-- ---- lists of names
after_parted : (names : List (List ℕ)) (rest : List ℕ) → IsEmptyOrParting rest
    → IsEmptyOrParting (text_of (names_after names) ++ rest)
after_parted [] rest parted = parted
after_parted (name ∷ names) rest parted = refl

after_right : (d : Dialect) (names : List (List ℕ)) (rest : List ℕ) → IsEmptyOrParting rest
    → AreRight d (names_after names) rest
after_right d [] rest parted = tt
after_right d (name ∷ names) rest parted =
    let here = quoted_right d name _ (after_parted names rest parted) in
    (parts d _, (refl, (here, after_right d names rest parted)))

after_depth : (names : List (List ℕ)) (n : ℕ) → depth_past n (names_after names) ≡ n
after_depth [] n = refl
after_depth (name ∷ names) n = after_depth names n

names_right : (d : Dialect) (names : List (List ℕ)) (rest : List ℕ) → IsEmptyOrParting rest
    → AreRight d (name_pieces names) rest
names_right d [] rest parted = tt
names_right d (name ∷ names) rest parted =
    (quoted_right d name _ (after_parted names rest parted), after_right d names rest parted)

names_depth : (names : List (List ℕ)) (n : ℕ) → depth_past n (name_pieces names) ≡ n
names_depth [] n = refl
names_depth (name ∷ names) n = after_depth names n

list_right : (d : Dialect) (s : Schema) (x : Attributes) (rest : List ℕ)
    → AreRight d (list_pieces s x) rest
list_right d s x rest =
    let names = members_from x 0 (names_of s) in (
      opens d _,
      right_append d (name_pieces names) (mark 41 ∷ []) rest (names_right d names (41 ∷ rest) refl)
          (closes d rest, tt),
    )

list_depth : (s : Schema) (x : Attributes) (n : ℕ) → depth_past n (list_pieces s x) ≡ n
list_depth s x n =
    let names = members_from x 0 (names_of s) in
    depth_append (n + 1) (name_pieces names) (mark 41 ∷ [])
    ∙ ap (λ (m : ℕ). depth_past m (mark 41 ∷ [])) (names_depth names (n + 1))
    ∙ omega arith

-- ---- keys and references
key_is : (d : Dialect) (s : Schema) (key : Attributes) → IsElement d (key_pieces s key)
key_is d s key = record {
  right = λ rest parted.
      word_then d (codes "PRIMARY") (word (codes "KEY") ∷ blank ∷ list_pieces s key) rest refl
      (word_then d (codes "KEY") (list_pieces s key) rest refl (list_right d s key rest));
  depth = λ n. list_depth s key n;
}

unique_is : (d : Dialect) (s : Schema) (key : Attributes) → IsElement d (unique_pieces s key)
unique_is d s key = record {
  right = λ rest parted.
      word_then d (codes "UNIQUE") (list_pieces s key) rest refl (list_right d s key rest);
  depth = λ n. list_depth s key n;
}

-- what follows the names of a reference, with the blank before it
abbrev pub target : Schema → TableDesign → List TextPiece
target s other =
    blank ∷ word (codes "REFERENCES") ∷ blank ∷ quoted_name_piece other.name ∷ blank
    ∷ list_pieces s (attributes other.key)

target_right : (d : Dialect) (s : Schema) (other : TableDesign) (rest : List ℕ)
    → AreRight d (target s other) rest
target_right d s other rest =
    let key = list_pieces s (attributes other.key) in (
      refl,
      word_then d (codes "REFERENCES") (quoted_name_piece other.name ∷ blank ∷ key) rest refl
          (name_then d other.name key rest (list_right d s (attributes other.key) rest)),
    )

reference_is : (d : Dialect) (s : Schema) (other : TableDesign) → IsElement d (reference_pieces s other)
reference_is d s other = record {
  right = λ rest parted.
      word_then d (codes "FOREIGN") (word (codes "KEY") ∷ blank ∷ (key ++ target s other)) rest refl
      (word_then d (codes "KEY") (key ++ target s other) rest refl
      (right_append d key (target s other) rest
      (list_right d s (attributes other.key) (text_of (target s other) ++ rest))
      (target_right d s other rest)));
  depth = λ n. depth_append n key (target s other)
      ∙ ap (λ (m : ℕ). depth_past m key) (list_depth s (attributes other.key) n)
      ∙ list_depth s (attributes other.key) n;
}
  where
    key : List TextPiece
    key = list_pieces s (attributes other.key)

-- ---- elements
mapped : (d : Dialect) {X : Type 0} (f : X → List TextPiece) → ((x : X) → IsElement d (f x))
    → (xs : List X)
    → All (IsElement d) (map f xs)
mapped d f each xs = All-map (IsElement d) f xs (λ k default within. each (get_or xs k default))

abbrev primary : Schema → Attributes → Bool → List (List TextPiece)
primary s key empty = if empty then [] else key_pieces s key ∷ []

primary_is : (d : Dialect) (s : Schema) (key : Attributes) (empty : Bool)
    → All (IsElement d) (primary s key empty)
primary_is d s key true = All-nil (IsElement d)
primary_is d s key false =
    All-cons (IsElement d) (key_pieces s key) [] (key_is d s key) (All-nil (IsElement d))

keys_are : (d : Dialect) (s : Schema) (table : TableDesign) → All (IsElement d) (keys_pieces s table)
keys_are d s table =
    All-append (IsElement d) (primary s key (is_empty key)) (map (unique_pieces s) others)
    (primary_is d s key (is_empty key)) (mapped d (unique_pieces s) (unique_is d s) others)
  where
    key : Attributes
    key = attributes table.key

    others : List Attributes
    others = filter (is_never_missing s) (known_keys table.other_keys)

elements_are : (d : Dialect) (s : Schema) (tables : List TableDesign) (table : TableDesign)
    → AreSound d s
    → All (IsElement d) (elements_pieces s tables table)
elements_are d s tables table sound =
    All-append (IsElement d) (columns_pieces s table ++ keys_pieces s table)
    (references_pieces s tables table)
    (All-append (IsElement d) (columns_pieces s table) (keys_pieces s table)
    (mapped d (column_pieces s (nullable_in s table)) (column_is d s sound (nullable_in s table))
    (members_below (width_of s) (attributes table.scheme)))
    (keys_are d s table))
    (mapped d (λ j. reference_pieces s (get_or tables j table)) (λ j. reference_is d s (get_or tables j table))
    table.refs.items)

-- ---- lines
further_parted : (elements : List (List TextPiece)) (rest : List ℕ) → IsEmptyOrParting rest
    → IsEmptyOrParting (text_of (lines_after elements) ++ rest)
further_parted [] rest parted = parted
further_parted (element ∷ elements) rest parted = refl

further_right : (d : Dialect) (elements : List (List TextPiece)) (rest : List ℕ)
    → All (IsElement d) elements
    → IsEmptyOrParting rest → AreRight d (lines_after elements) rest
further_right d [] rest are parted = tt
further_right d (element ∷ elements) rest are parted =
    let this = All-head (IsElement d) element elements are in
    let others = further_right d elements rest (All-tail (IsElement d) element elements are) parted in
    let here = this.right _ (further_parted elements rest parted) in
    (parts d _, (refl, right_append d element (lines_after elements) rest here others))

element_depth : (d : Dialect) (element : List TextPiece) (elements : List (List TextPiece)) (n : ℕ)
    → IsElement d element
    → depth_past n (element ++ lines_after elements) ≡ depth_past n (lines_after elements)
element_depth d element elements n is =
    depth_append n element (lines_after elements)
    ∙ ap (λ (m : ℕ). depth_past m (lines_after elements)) (is.depth n)

further_depth : (d : Dialect) (elements : List (List TextPiece)) (n : ℕ) → All (IsElement d) elements
    → depth_past n (lines_after elements) ≡ n
further_depth d [] n are = refl
further_depth d (element ∷ elements) n are =
    element_depth d element elements n (All-head (IsElement d) element elements are)
    ∙ further_depth d elements n (All-tail (IsElement d) element elements are)

lines_right : (d : Dialect) (elements : List (List TextPiece)) (rest : List ℕ)
    → All (IsElement d) elements
    → IsEmptyOrParting rest → AreRight d (lines_pieces elements) rest
lines_right d [] rest are parted = tt
lines_right d (element ∷ elements) rest are parted =
    let this = All-head (IsElement d) element elements are in
    let others = further_right d elements rest (All-tail (IsElement d) element elements are) parted in
    let here = this.right _ (further_parted elements rest parted) in
    (refl, right_append d element (lines_after elements) rest here others)

lines_depth : (d : Dialect) (elements : List (List TextPiece)) (n : ℕ) → All (IsElement d) elements
    → depth_past n (lines_pieces elements) ≡ n
lines_depth d [] n are = refl
lines_depth d (element ∷ elements) n are =
    element_depth d element elements n (All-head (IsElement d) element elements are)
    ∙ further_depth d elements n (All-tail (IsElement d) element elements are)

-- ---- statements
-- the end of a statement
abbrev last : List TextPiece
last = gap (10 ∷ []) ∷ mark 41 ∷ []

-- the elements that the syntax has
made_are : (d : Dialect) (s : Schema) (tables : List TableDesign) (table : TableDesign) → AreSound d s
    → All (IsElement d) (map element_pieces (elements_made s tables table))
made_are d s tables table sound =
    subst (All (IsElement d)) (sym (elements_same s tables table)) (elements_are d s tables table sound)

abbrev created : Schema → List TableDesign → TableDesign → List TextPiece
created s tables table = create_pieces (quoted_name table.name) (elements_made s tables table)

pub create_right : (d : Dialect) (s : Schema) (tables : List TableDesign) (table : TableDesign)
    (rest : List ℕ) → AreSound d s → AreRight d (created s tables table) rest
create_right d s tables table rest sound =
    word_then d (codes "CREATE") (word (codes "TABLE") ∷ blank ∷ quoted_name_piece table.name ∷ blank ∷ bracketed)
    rest refl
    (word_then d (codes "TABLE") (quoted_name_piece table.name ∷ blank ∷ bracketed) rest refl
    (name_then d table.name bracketed rest (opens d _, (refl, within))))
  where
    lines : List TextPiece
    lines = lines_pieces (map element_pieces (elements_made s tables table))

    bracketed : List TextPiece
    bracketed = mark 40 ∷ gap (10 ∷ []) ∷ (lines ++ last)

    within : AreRight d (lines ++ last) rest
    within =
        right_append d lines last rest
        (lines_right d (map element_pieces (elements_made s tables table)) _ (made_are d s tables table sound) refl)
        (refl, (closes d rest, tt))

pub create_depth : (d : Dialect) (s : Schema) (tables : List TableDesign) (table : TableDesign)
    → AreSound d s
    → depth_past 0 (created s tables table) ≡ 0
create_depth d s tables table sound =
    depth_append 1 (lines_pieces (map element_pieces (elements_made s tables table))) last
    ∙ ap (λ (m : ℕ). depth_past m last)
    (lines_depth d (map element_pieces (elements_made s tables table)) 1 (made_are d s tables table sound))
