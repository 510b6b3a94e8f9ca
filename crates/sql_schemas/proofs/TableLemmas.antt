-- The columns of a table as a schema without dependencies, and its text.
use Rattle.std.proofs.Common.{◌≡◌, ◌<◌, ◌≤◌, ℕ, true, false, None, IsTrue, List, [], ◌∷◌, ◌++◌, inl, inr, length, refl, sym, ap, subst, ◌∙◌, arith, append-nil}
use mathlib.Core.Path.{fun_ext}
use Rattle.std.specs.Prelude.{AllPairs, map, slice_get}
use Rattle.std.proofs.lemmas.Bool.{cases_lt, and_parts}
use Rattle.std.proofs.lemmas.Grind.{flat_map-append}
use Rattle.std.proofs.lemmas.Bool.Decides.{nat_tests}
use Rattle.std.proofs.lemmas.List.{get_or-map, length-map}
use Rattle.std.proofs.lemmas.List.Elements.{All-map}
use Rattle.std.proofs.lemmas.Option.{slice_get_past}
use Rattle.attr_sets.specs.Attributes.{Attributes, IsSubset, below}
use Rattle.schema_model.specs.Columns.{is_column_type}
use Rattle.schema_model.specs.Names.{same_name}
use Rattle.schema_model.specs.Validity.{AreDeclared, IsSchema}
use Rattle.schema_model.specs.declared.column_type.ColumnType.{ColumnType}
use Rattle.dep_model.specs.declared.dep.Dep.{Dep}
use Rattle.schema_model.specs.declared.naming.Naming.TheVariants.{Any, Bare}
use Rattle.dep_model.specs.Deps.{dependencies_of}
use Rattle.schema_model.specs.Schemas.{deps_of, names_of, naming_of, nullable_of, types_of, width_of}
use Rattle.schema_model.specs.declared.naming.Naming.{Naming}
use Rattle.schema_model.specs.Schemas.{Schema}
use Rattle.schema_printer.specs.Printing.{lines_text, schema_lines, schema_text}
use Rattle.schema_printer.specs.Spelling.{printed_names_of, spelling}
use Rattle.sql_definitions.specs.Facts.{AreColumns, StatedColumn}
use Rattle.sql_schemas.specs.Keys.{KeyColumns, new_keys}
use Rattle.sql_schemas.specs.Texts.{IsSchemaOf, column_names, column_types, columns_missing, key_line, says_nothing, table_text}

pub names_count : (columns : List StatedColumn) → length (column_names columns) ≡ length columns
names_count columns = length-map columns (λ c. c.name)

pub types_count : (columns : List StatedColumn) → length (column_types columns) ≡ length columns
types_count columns = length-map columns (λ c. c.kind)

pub names_apart : (columns : List StatedColumn) → AllPairs (λ a b. same_name a.name b.name ≡ false) columns
    → AllPairs (λ a b. same_name a b ≡ false) (column_names columns)
names_apart [] differ i j d before within = absurd (omega (arith, within))
names_apart (column ∷ columns) differ i j d before within =
    let all = column ∷ columns in
    let size = names_count all in
    let low : j < length all = omega (arith, size, within) in
    rw (get_or-map (λ c. c.name) all i column d (omega (arith, before, low)), get_or-map (λ c. c.name) all j column d low)
    (differ i j column before low)

pub table_schema : (columns : List StatedColumn) (names : List (List ℕ)) (deps : List Dep) (lines : List ℕ) → AreColumns columns
    → 0 < length columns → names ≡ column_names columns → deps ≡ [] → lines ≡ [] → IsSchema names deps lines
table_schema columns names deps lines are some same none empty =
    let size = names_count columns in
    let limit = are.within_limit in
    subst (λ (ns : List (List ℕ)). IsSchema ns deps lines) (sym same) (record {
      names_not_empty = omega (arith, size, some);
      names_within_limit = omega (arith, size, limit);
      names_differ = names_apart columns are.names_differ;
      deps_within_limit = rw none (omega arith);
      deps_within = rw none (λ k d l. absurd (omega arith));
      one_line_each = ap length empty ∙ sym (ap length none);
    })

-- a value may be missing in columns alone
pub missing_within : (columns : List StatedColumn) (keys : List KeyColumns) (n : ℕ) → length columns ≤ n
    → IsSubset (columns_missing columns keys) (below n)
missing_within columns keys n size k member = elim (cases_lt k n) [
  | inl low ↦ grind (arith, nat_tests, low)
  | inr past ↦ absurd (nothing (slice_get_past columns k (omega (arith, size, past))))
]
  where
    nothing : slice_get columns k ≡ None → ⊥
    nothing none =
        let is : says_nothing (slice_get columns k) ≡ true = (and_parts (says_nothing (slice_get columns k)) _ member).0 in
        let wrong : false ≡ true = sym (ap says_nothing none) ∙ is in cc

pub table_declared : (columns : List StatedColumn) (keys : List KeyColumns) (names : List (List ℕ)) (types : List ColumnType)
    (missing : Attributes) → AreColumns columns → names ≡ column_names columns → types ≡ column_types columns
    → ((k : ℕ) → missing k ≡ columns_missing columns keys k) → AreDeclared Any names types missing
table_declared columns keys names types missing are same kinds each =
    let count = names_count columns in
    let size = types_count columns in
    let nullable : columns_missing columns keys ≡ missing = sym (fun_ext each) in
    subst (λ (ns : List (List ℕ)). AreDeclared Any ns types missing) (sym same)
    (subst (λ (ts : List ColumnType). AreDeclared Any (column_names columns) ts missing) (sym kinds)
    (subst (λ (x : Attributes). AreDeclared Any (column_names columns) (column_types columns) x) nullable (record {
      one_each = size ∙ sym count;
      each = All-map (λ column. IsTrue (is_column_type column)) (λ c. c.kind) columns are.types;
      nullable_within = missing_within columns keys (length (column_names columns)) (omega (arith, count));
      bare = λ wrong. absurd (never wrong);
    })))
  where
    never : Any ≡ Bare → ⊥
    never wrong = cc

-- ---- the text, by the parts of a schema
text_by : Naming → List ColumnType → List (List ℕ) → Attributes → List KeyColumns → List ℕ
text_by naming columns names nullable kept =
    lines_text (schema_lines naming columns (map (spelling naming) names) nullable
    ++ map (key_line (map (spelling naming) names) nullable) kept)

parts_text : (s : Schema) (kept : List KeyColumns)
    → schema_text s [] ++ lines_text (map (key_line (printed_names_of s) (nullable_of s)) kept)
    ≡ text_by (naming_of s) (types_of s) (names_of s) (nullable_of s) kept
unfolding schema_text printed_names_of text_by
parts_text s kept =
    let naming = naming_of s in
    let printed = map (spelling naming) (names_of s) in
    let front = schema_lines naming (types_of s) printed (nullable_of s) in
    let last = map (key_line printed (nullable_of s)) kept in
    ap (λ (ls : List (List ℕ)). lines_text ls ++ lines_text last) (append-nil front)
    ∙ sym (flat_map-append (λ (line : List ℕ). line ++ 10 ∷ []) front last)

whole_text : (columns : List StatedColumn) (keys : List KeyColumns)
    → text_by Any (column_types columns) (column_names columns) (columns_missing columns keys) (new_keys (length columns) (columns_missing columns keys) [] keys)
    ≡ table_text columns keys
unfolding text_by table_text
whole_text columns keys = refl

pub text_of_table : (columns : List StatedColumn) (keys : List KeyColumns) (s : Schema) (deps : List Dep) (kept : List KeyColumns) (n : ℕ)
    (text : List ℕ) → IsSchemaOf columns keys s → deps ≡ deps_of s → n ≡ width_of s → kept ≡ new_keys n (nullable_of s) [] keys
    → text ≡ schema_text s (dependencies_of deps) ++ lines_text (map (key_line (printed_names_of s) (nullable_of s)) kept)
    → text ≡ table_text columns keys
text_of_table columns keys s deps kept n text is same width new says =
    let count : n ≡ length columns = width ∙ ap length is.names ∙ names_count columns in
    let all : kept ≡ new_keys (length columns) (columns_missing columns keys) [] keys =
    new ∙ ap (λ (k : ℕ). new_keys k (nullable_of s) [] keys) count
    ∙ ap (λ (x : Attributes). new_keys (length columns) x [] keys) is.nullable in
    says
    ∙ ap (λ (ds : List Dep). schema_text s (dependencies_of ds) ++ lines_text (map (key_line (printed_names_of s) (nullable_of s)) kept)) (same ∙ is.deps)
    ∙ parts_text s kept
    ∙ ap (λ (naming : Naming). text_by naming (types_of s) (names_of s) (nullable_of s) kept) is.naming
    ∙ ap (λ (types : List ColumnType). text_by Any types (names_of s) (nullable_of s) kept) is.types
    ∙ ap (λ (names : List (List ℕ)). text_by Any (column_types columns) names (nullable_of s) kept) is.names
    ∙ ap (λ (x : Attributes). text_by Any (column_types columns) (column_names columns) x kept) is.nullable
    ∙ ap (λ (ks : List KeyColumns). text_by Any (column_types columns) (column_names columns) (columns_missing columns keys) ks) all
    ∙ whole_text columns keys
