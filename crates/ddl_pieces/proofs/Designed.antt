-- The pieces of the elements of a design, by the schema and its tables.
use Rattle.std.proofs.Common.{◌≡◌, ◌+◌, ◌<◌, ◌≤◌, ℕ, zero, suc, Bool, true, false, IsTrue, List, [], ◌∷◌, ◌++◌, length, get_or, map, filter, refl, sym, ap, ap₂, subst, ◌∙◌, ⊎_elim, arith}
use Rattle.std.specs.Prelude.{codes, if◌then◌else◌, slice_index_or}
use Rattle.std.specs.List.{flat_map}
use Rattle.std.proofs.lemmas.Bool.{cases_lt}
use Rattle.std.proofs.lemmas.Bool.Decides.{nat_tests}
use Rattle.std.proofs.lemmas.Fmt.{decimal_digit}
use Rattle.std.proofs.lemmas.List.{get_or_past, map-append}
use Rattle.std.proofs.lemmas.List.Elements.{All-get_or}
use Rattle.std.proofs.lemmas.List.Folds.{flat_map-map}
use Rattle.attr_sets.specs.Attributes.{Attributes, difference}
use Rattle.attr_sets.specs.Sets.{attributes}
use Rattle.schema_model.specs.Columns.{is_column_type}
use Rattle.schema_model.specs.declared.column_type.ColumnType.{ColumnType}
use Rattle.schema_model.specs.declared.column_type.ColumnType.TheVariants as type
use Rattle.schema_model.specs.Schemas.{Schema}
use Rattle.dep_model.specs.Projections.{members_below}
use Rattle.schema_model.specs.Schemas.{names_of, width_of, types_of, nullable_of}
use Rattle.schema_printer.specs.Printing.{members_from}
use Rattle.sql_syntax.specs.Names.{attribute_names}
use Rattle.sql_syntax.specs.Syntax.{attribute}
use Rattle.sql_syntax.specs.Statements.{Element, primary_key, unique_key}
use Rattle.ddl_text.specs.Ddl.{sql_type, is_empty, is_never_missing, column_made, columns_made, stated_keys, key_made, keys_made, reference_made, references_made, elements_made}
use Rattle.ddl_text.specs.Designs.{known_keys}
use Rattle.ddl_text.specs.declared.table.TableDesign.{TableDesign}
use Rattle.ddl_pieces.specs.Pieces.{TextPiece, blank, bracketed, column_piece, element_pieces, listed, mark, not_null, number, pieces_in_type, quoted_name_piece, type_pieces, word}

-- the column of an attribute
abbrev pub column_pieces : Schema → Attributes → ℕ → List TextPiece
column_pieces s nullable k =
    quoted_name_piece (slice_index_or (names_of s) k []) ∷ blank
    ∷ (type_pieces (slice_index_or (types_of s) k type.Text) ++ (if nullable k then [] else not_null))

-- names, with a comma and a blank between two
abbrev pub names_after : List (List ℕ) → List TextPiece
names_after names = flat_map (λ name. mark 44 ∷ blank ∷ quoted_name_piece name ∷ []) names

abbrev pub name_pieces : List (List ℕ) → List TextPiece
name_pieces [] = []
name_pieces (name ∷ names) = quoted_name_piece name ∷ names_after names

-- names of attributes in round brackets
abbrev pub list_pieces : Schema → Attributes → List TextPiece
list_pieces s x = mark 40 ∷ (name_pieces (members_from x 0 (names_of s)) ++ mark 41 ∷ [])

abbrev pub key_pieces : Schema → Attributes → List TextPiece
key_pieces s key = word (codes "PRIMARY") ∷ blank ∷ word (codes "KEY") ∷ blank ∷ list_pieces s key

abbrev pub unique_pieces : Schema → Attributes → List TextPiece
unique_pieces s key = word (codes "UNIQUE") ∷ blank ∷ list_pieces s key

-- a reference to a table by its key
abbrev pub reference_pieces : Schema → TableDesign → List TextPiece
reference_pieces s other =
    word (codes "FOREIGN") ∷ blank ∷ word (codes "KEY") ∷ blank ∷ (list_pieces s (attributes other.key)
    ++ blank ∷ word (codes "REFERENCES") ∷ blank ∷ quoted_name_piece other.name ∷ blank
    ∷ list_pieces s (attributes other.key))

-- the attributes of a table of which a value may be missing
abbrev pub nullable_in : Schema → TableDesign → Attributes
nullable_in s table = difference (nullable_of s) (attributes table.key)

-- the columns of a table
abbrev pub columns_pieces : Schema → TableDesign → List (List TextPiece)
columns_pieces s table =
    map (column_pieces s (nullable_in s table)) (members_below (width_of s) (attributes table.scheme))

-- the keys of a table that are stated
abbrev pub keys_pieces : Schema → TableDesign → List (List TextPiece)
keys_pieces s table =
    (if is_empty (attributes table.key) then [] else key_pieces s (attributes table.key) ∷ [])
    ++ map (unique_pieces s) (filter (is_never_missing s) (known_keys table.other_keys))

abbrev pub references_pieces : Schema → List TableDesign → TableDesign → List (List TextPiece)
references_pieces s tables table = map (λ j. reference_pieces s (slice_index_or tables j table)) table.refs.items

-- the elements of a table
abbrev pub elements_pieces : Schema → List TableDesign → TableDesign → List (List TextPiece)
elements_pieces s tables table =
    columns_pieces s table ++ keys_pieces s table ++ references_pieces s tables table

-- ---- types
-- a digit is one of ten
pub by_digit : (P : ℕ → Type 0) → P 0 → P 1 → P 2 → P 3 → P 4 → P 5 → P 6 → P 7 → P 8 → P 9 → (n : ℕ) → n ≤ 9 → P n
by_digit P p0 p1 p2 p3 p4 p5 p6 p7 p8 p9 zero low = p0
by_digit P p0 p1 p2 p3 p4 p5 p6 p7 p8 p9 (suc zero) low = p1
by_digit P p0 p1 p2 p3 p4 p5 p6 p7 p8 p9 (suc (suc zero)) low = p2
by_digit P p0 p1 p2 p3 p4 p5 p6 p7 p8 p9 (suc (suc (suc zero))) low = p3
by_digit P p0 p1 p2 p3 p4 p5 p6 p7 p8 p9 (suc (suc (suc (suc zero)))) low = p4
by_digit P p0 p1 p2 p3 p4 p5 p6 p7 p8 p9 (suc (suc (suc (suc (suc zero))))) low = p5
by_digit P p0 p1 p2 p3 p4 p5 p6 p7 p8 p9 (suc (suc (suc (suc (suc (suc zero)))))) low = p6
by_digit P p0 p1 p2 p3 p4 p5 p6 p7 p8 p9 (suc (suc (suc (suc (suc (suc (suc zero))))))) low = p7
by_digit P p0 p1 p2 p3 p4 p5 p6 p7 p8 p9 (suc (suc (suc (suc (suc (suc (suc (suc zero)))))))) low = p8
by_digit P p0 p1 p2 p3 p4 p5 p6 p7 p8 p9 (suc (suc (suc (suc (suc (suc (suc (suc (suc zero))))))))) low = p9
by_digit P p0 p1 p2 p3 p4 p5 p6 p7 p8 p9
    (suc (suc (suc (suc (suc (suc (suc (suc (suc (suc n)))))))))) low = absurd (omega (arith, low))

-- a decimal type, by the text of its scale
abbrev IsDecimal : List ℕ → Type 0
IsDecimal text = pieces_in_type 0 (codes "DECIMAL(15, " ++ text ++ codes ")")
    ≡ word (codes "DECIMAL") ∷ mark 40 ∷ number (codes "15") ∷ mark 44 ∷ blank ∷ number text ∷ mark 41 ∷ []

digit_same : (scale : ℕ) → scale ≤ 9 → IsDecimal ((48 + scale) ∷ [])
unfolding pieces_in_type
digit_same scale low =
    by_digit (λ (n : ℕ). IsDecimal ((48 + n) ∷ [])) refl refl refl refl refl refl refl refl refl refl scale low

pub type_same : (column : ColumnType) → IsTrue (is_column_type column) → pieces_in_type 0 (sql_type column) ≡ type_pieces column
unfolding pieces_in_type
type_same type.Text is = refl
type_same type.Integer is = refl
type_same type.Date is = refl
type_same type.Timestamp is = refl
type_same (type.Decimal scale) is =
    let low : scale ≤ 9 = grind (arith, nat_tests, is) in
    subst IsDecimal (sym (decimal_digit scale (omega (arith, low)))) (digit_same scale low)
type_same type.Uuid is = refl
type_same (type.Other text) is = refl

-- the types of a schema are valid
pub valid_type : (s : Schema) (k : ℕ) → IsTrue (is_column_type (get_or (types_of s) k type.Text))
valid_type s k = ⊎_elim
    (λ (here : k < length (types_of s)).
    All-get_or (λ column. IsTrue (is_column_type column)) (types_of s) k type.Text here s.typed.each)
    (λ past. subst (λ (column : ColumnType). IsTrue (is_column_type column)) (sym (get_or_past (types_of s) k type.Text past)) refl)
    (cases_lt k (length (types_of s)))

-- ---- elements
column_same : (s : Schema) (nullable : Attributes) (k : ℕ)
    → element_pieces (column_made s nullable k) ≡ column_pieces s nullable k
column_same s nullable k =
    ap (λ (ps : List TextPiece). quoted_name_piece (slice_index_or (names_of s) k []) ∷ blank
    ∷ (ps ++ (if nullable k then [] else not_null)))
    (type_same (slice_index_or (types_of s) k type.Text) (valid_type s k))

pub listed_same : (names : List (List ℕ)) → listed (map attribute names) ≡ name_pieces names
listed_same [] = refl
listed_same (name ∷ names) =
    ap (λ (ps : List TextPiece). quoted_name_piece name ∷ ps)
    (flat_map-map (λ name. mark 44 ∷ blank ∷ column_piece name ∷ []) attribute names)

list_same : (s : Schema) (x : Attributes) → bracketed (attribute_names s x) ≡ list_pieces s x
list_same s x = ap (λ (ps : List TextPiece). mark 40 ∷ (ps ++ mark 41 ∷ [])) (listed_same (members_from x 0 (names_of s)))

mapped_same : {X : Type 0} (f : X → Element) (g : X → List TextPiece) → ((x : X) → element_pieces (f x) ≡ g x) → (xs : List X)
    → map element_pieces (map f xs) ≡ map g xs
mapped_same f g same [] = refl
mapped_same f g same (x ∷ xs) =
    ap (λ (ps : List TextPiece). ps ∷ map element_pieces (map f xs)) (same x)
    ∙ ap (λ (rest : List (List TextPiece)). g x ∷ rest) (mapped_same f g same xs)

unique_same : (s : Schema) (key : Attributes) → element_pieces (unique_key (attribute_names s key)) ≡ unique_pieces s key
unique_same s key = ap (λ (ps : List TextPiece). word (codes "UNIQUE") ∷ blank ∷ ps) (list_same s key)

key_same : (s : Schema) (key : Attributes) (empty : Bool)
    → map element_pieces (if empty then [] else primary_key (attribute_names s key) ∷ [])
    ≡ (if empty then [] else key_pieces s key ∷ [])
key_same s key true = refl
key_same s key false =
    ap (λ (ps : List TextPiece). (word (codes "PRIMARY") ∷ blank ∷ word (codes "KEY") ∷ blank ∷ ps) ∷ []) (list_same s key)

reference_same : (s : Schema) (other : TableDesign) → element_pieces (reference_made s other) ≡ reference_pieces s other
reference_same s other =
    ap (λ (ps : List TextPiece). word (codes "FOREIGN") ∷ blank ∷ word (codes "KEY") ∷ blank ∷ (ps
    ++ blank ∷ word (codes "REFERENCES") ∷ blank ∷ quoted_name_piece other.name ∷ blank ∷ ps))
    (list_same s (attributes other.key))

keys_same : (s : Schema) (table : TableDesign) → map element_pieces (keys_made s table) ≡ keys_pieces s table
keys_same s table =
    let key = attributes table.key in
    let others = stated_keys s (known_keys table.other_keys) in
    map-append element_pieces (key_made s key) (map (λ k. unique_key (attribute_names s k)) others)
    ∙ ap₂ (λ (a b : List (List TextPiece)). a ++ b) (key_same s key (is_empty key))
    (mapped_same (λ k. unique_key (attribute_names s k)) (unique_pieces s) (unique_same s) others)

pub elements_same : (s : Schema) (tables : List TableDesign) (table : TableDesign)
    → map element_pieces (elements_made s tables table) ≡ elements_pieces s tables table
elements_same s tables table =
    map-append element_pieces (columns_made s table ++ keys_made s table) (references_made s tables table)
    ∙ ap₂ (λ (a b : List (List TextPiece)). a ++ b)
    (map-append element_pieces (columns_made s table) (keys_made s table)
    ∙ ap₂ (λ (a b : List (List TextPiece)). a ++ b)
    (mapped_same (column_made s (nullable_in s table)) (column_pieces s (nullable_in s table))
    (column_same s (nullable_in s table)) (members_below (width_of s) (attributes table.scheme)))
    (keys_same s table))
    (mapped_same (λ j. reference_made s (slice_index_or tables j table)) (λ j. reference_pieces s (slice_index_or tables j table))
    (λ j. reference_same s (slice_index_or tables j table)) table.refs.items)
