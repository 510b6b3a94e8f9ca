-- The statements that create the tables of a design are read back.
use Rattle.std.proofs.Common.{◌≡◌, ◌<◌, ℕ, Bool, true, not, List, [], ◌∷◌, ◌++◌, map, refl, sym, ap, arith, append-nil}
use Rattle.std.specs.Prelude.{All, IsTrue, codes, decimal, if◌then◌else◌, is_some, slice_index_or}
use Rattle.std.specs.List.{flat_map, list_all}
use Rattle.std.proofs.lemmas.Bool.{and_from, and_parts, leb-true}
use Rattle.std.proofs.lemmas.Fmt.{decimal_digit}
use Rattle.std.proofs.lemmas.List.Elements.{All-nil, All-cons, All-head, All-tail, All-append, All-map, All-weaker}
use Rattle.attr_sets.specs.Attributes.{Attributes, difference}
use Rattle.attr_sets.specs.Sets.{attributes}
use Rattle.dep_model.specs.Projections.{members_below}
use Rattle.schema_model.specs.Columns.{is_column_type}
use Rattle.schema_model.specs.Names.{IsName, is_type_byte}
use Rattle.schema_model.specs.Schemas.{Schema, names_of, types_of, width_of, nullable_of}
use Rattle.schema_model.specs.declared.column_type.ColumnType.{ColumnType}
use Rattle.schema_model.specs.declared.column_type.ColumnType.TheVariants.{Text, Integer, Date, Timestamp, Decimal, Uuid, Other}
use Rattle.schema_model.proofs.PlainLemmas.{IsPlain, name_plain, plain_both, quoted_plain}
use Rattle.schema_printer.specs.Printing.{members_from}
use Rattle.schema_printer.proofs.MemberLemmas.{members_each}
use Rattle.sql_syntax.specs.Names.{attribute_names, quoted_name, separator}
use Rattle.sql_syntax.specs.Printing.{name_text, names_text}
use Rattle.sql_syntax.specs.Syntax.{attribute}
use Rattle.sql_syntax.specs.Statements.{Element, primary_key, unique_key, Statement, remark, create_table}
use Rattle.ddl_text.specs.Ddl.{sql_type, column_made, columns_made, is_empty, stated_keys, left_out_keys, key_made, uniques_made, keys_made, reference_made, references_made, elements_made, left_out_words, said_of, remarks_made, table_made, tables_made}
use Rattle.ddl_text.specs.Designs.{known_keys}
use Rattle.ddl_text.specs.declared.table.TableDesign.{TableDesign}
use Rattle.script_texts.specs.Queries.{is_column_name, IsTableName}
use Rattle.script_texts.specs.Scripts.{is_line, ends_with, is_plain_type, IsElement, IsStatement, IsScript}
use Rattle.script_laws.specs.Premises.{leaves_missing, HasPlainTypes}
use Rattle.script_laws.proofs.Tests.{all_made, all_of, all_either}
use Rattle.script_laws.proofs.Lines.{line_of_plain, decimal_plain, type_plain, at_position}

-- ---- names
-- a name in quotes is the name of a table
pub table_named : (name : List ℕ) → IsTableName (quoted_name name)
table_named name = (name ∷ [], sym (append-nil (quoted_name name)))

pub names_are : (s : Schema) (x : Attributes) → list_all is_column_name (attribute_names s x) ≡ true
names_are s x = all_made is_column_name attribute (members_from x 0 (names_of s)) (λ name. refl)

-- ---- types
abbrev no_null : List ℕ → Bool
no_null bytes = not (ends_with bytes (codes " NOT NULL"))

abbrev decimal_text : List ℕ → List ℕ
decimal_text digits = codes "DECIMAL(15, " ++ digits ++ codes ")"

scale_is : (scale : ℕ) → scale < 10 → is_plain_type (decimal_text (decimal scale)) ≡ true
scale_is scale within =
    and_from (is_line (decimal_text (decimal scale))) (no_null (decimal_text (decimal scale)))
    (line_of_plain (decimal_text (decimal scale))
    (plain_both (codes "DECIMAL(15, " ++ decimal scale) (codes ")")
    (plain_both (codes "DECIMAL(15, ") (decimal scale) refl (decimal_plain scale)) refl))
    (ap (λ (digits : List ℕ). no_null (decimal_text digits)) (decimal_digit scale within))

scale_within : (scale : ℕ) → is_column_type (Decimal scale) ≡ true → scale < 10
scale_within scale is = let within = leb-true scale 9 is in omega (arith, within)

type_is : (column : ColumnType) → is_column_type column ≡ true → leaves_missing column ≡ true
    → is_plain_type (sql_type column) ≡ true
type_is Text is leaves = refl
type_is Integer is leaves = refl
type_is Date is leaves = refl
type_is Timestamp is leaves = refl
type_is (Decimal scale) is leaves = scale_is scale (scale_within scale is)
type_is Uuid is leaves = refl
type_is (Other text) is leaves =
    let parts = and_parts _ (list_all is_type_byte text) is in
    and_from (is_line text) (not (ends_with text (codes " NOT NULL")))
    (line_of_plain text (type_plain text parts.1)) leaves

abbrev PrintsPlain : ColumnType → Type 0
PrintsPlain column = is_plain_type (sql_type column) ≡ true

both_hold : (columns : List ColumnType) → All (λ column. IsTrue (is_column_type column)) columns
    → All (λ column. IsTrue (leaves_missing column)) columns → All PrintsPlain columns
both_hold columns are leave k d within = type_is (slice_index_or columns k d) (are k d within) (leave k d within)

type_at_is : (s : Schema) → HasPlainTypes s → (k : ℕ) → PrintsPlain (slice_index_or (types_of s) k Text)
type_at_is s plain k = at_position PrintsPlain (types_of s) Text refl (both_hold (types_of s) s.typed.each plain) k

-- ---- elements
columns_are : (s : Schema) (table : TableDesign) → HasPlainTypes s → All IsElement (columns_made s table)
columns_are s table plain =
    let nullable : Attributes = difference (nullable_of s) (attributes table.key) in
    all_of IsElement (column_made s nullable) (members_below (width_of s) (attributes table.scheme))
    (λ k. (refl, type_at_is s plain k))

key_is : (s : Schema) (key : Attributes) → All IsElement (key_made s key)
key_is s key =
    all_either IsElement (is_empty key) [] (primary_key (attribute_names s key) ∷ []) (All-nil IsElement)
    (All-cons IsElement (primary_key (attribute_names s key)) [] (names_are s key) (All-nil IsElement))

uniques_are : (s : Schema) (keys : List Attributes) → All IsElement (uniques_made s keys)
uniques_are s keys =
    all_of IsElement (λ key. unique_key (attribute_names s key)) (stated_keys s keys) (λ key. names_are s key)

references_are : (s : Schema) (tables : List TableDesign) (table : TableDesign)
    → All IsElement (references_made s tables table)
references_are s tables table =
    all_of IsElement (λ j. reference_made s (slice_index_or tables j table)) table.refs.items
    (λ j. let other : TableDesign = slice_index_or tables j table in
    (names_are s (attributes other.key), table_named other.name))

elements_are : (s : Schema) (tables : List TableDesign) (table : TableDesign) → HasPlainTypes s
    → All IsElement (elements_made s tables table)
elements_are s tables table plain =
    let keys : List Element = keys_made s table in
    let references : List Element = references_made s tables table in
    All-append IsElement (columns_made s table ++ keys) references
    (All-append IsElement (columns_made s table) keys (columns_are s table plain)
    (All-append IsElement (key_made s (attributes table.key)) (uniques_made s (known_keys table.other_keys))
    (key_is s (attributes table.key)) (uniques_are s (known_keys table.other_keys))))
    (references_are s tables table)

-- ---- what is said of a table
listed_plain : (names : List (List ℕ)) → All IsPlain names → IsPlain (names_text (map attribute names))
listed_plain [] all = refl
listed_plain (name ∷ names) all =
    plain_both (quoted_name name) (flat_map (λ n. separator ++ name_text n) (map attribute names))
    (quoted_plain name (All-head IsPlain name names all)) (later_plain names (All-tail IsPlain name names all))
  where
    later_plain : (others : List (List ℕ)) → All IsPlain others
        → IsPlain (flat_map (λ n. separator ++ name_text n) (map attribute others))
    later_plain [] each = refl
    later_plain (other ∷ others) each =
        plain_both (separator ++ quoted_name other) (flat_map (λ n. separator ++ name_text n) (map attribute others))
        (plain_both separator (quoted_name other) refl (quoted_plain other (All-head IsPlain other others each)))
        (later_plain others (All-tail IsPlain other others each))

names_plain : (s : Schema) (x : Attributes) → All IsName (names_of s) → IsPlain (names_text (attribute_names s x))
names_plain s x names =
    listed_plain (members_from x 0 (names_of s))
    (members_each IsPlain x 0 (names_of s) (All-weaker IsName IsPlain name_plain (names_of s) names))

words_are : (s : Schema) (key : Attributes) → All IsName (names_of s) → is_line (left_out_words s key) ≡ true
words_are s key names =
    let listed = names_text (attribute_names s key) in
    let last = codes ") is left out: missing values are not compared" in
    line_of_plain (left_out_words s key)
    (plain_both (codes "UNIQUE (" ++ listed) last
    (plain_both (codes "UNIQUE (") listed refl (names_plain s key names)) refl)

one_line : (words : List ℕ) → is_line words ≡ true → All (λ (said : List ℕ). IsTrue (is_line said)) (words ∷ [])
one_line words is =
    All-cons (λ (said : List ℕ). IsTrue (is_line said)) words [] is (All-nil (λ (said : List ℕ). IsTrue (is_line said)))

said_is : (s : Schema) (table : TableDesign) → All IsName (names_of s)
    → All (λ (said : List ℕ). IsTrue (is_line said)) (said_of s table)
said_is s table names =
    let L : List ℕ → Type 0 = λ (said : List ℕ). IsTrue (is_line said) in
    let left : List Attributes = left_out_keys s (known_keys table.other_keys) in
    let unknown : List (List ℕ) = codes "further keys are not looked for" ∷ [] in
    all_either L (is_empty (attributes table.key)) (codes "at most one row" ∷ [])
    (if is_some table.other_keys then map (left_out_words s) left else unknown)
    (one_line (codes "at most one row") refl)
    (all_either L (is_some table.other_keys) (map (left_out_words s) left) unknown
    (all_of L (left_out_words s) left (λ key. words_are s key names))
    (one_line (codes "further keys are not looked for") refl))

-- ---- tables
table_is : (s : Schema) (tables : List TableDesign) (table : TableDesign) → All IsName (names_of s) → HasPlainTypes s
    → IsScript (table_made s tables table)
table_is s tables table names plain =
    let created : Statement = create_table (quoted_name table.name) (elements_made s tables table) in
    All-append IsStatement (remarks_made s table) (created ∷ [])
    (All-map IsStatement remark (said_of s table) (said_is s table names))
    (All-cons IsStatement created [] (table_named table.name, elements_are s tables table plain) (All-nil IsStatement))

pub tables_are : (s : Schema) (tables made : List TableDesign) → All IsName (names_of s) → HasPlainTypes s
    → IsScript (tables_made s tables made)
tables_are s tables [] names plain = All-nil IsStatement
tables_are s tables (table ∷ made) names plain =
    All-append IsStatement (table_made s tables table) (tables_made s tables made) (table_is s tables table names plain)
    (tables_are s tables made names plain)
