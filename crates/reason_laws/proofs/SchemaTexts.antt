-- The lines of a printed schema, none of which begins with `# `, and of the reasons of a cover.
use Rattle.std.proofs.Common.{◌≡◌, ℕ, true, false, List, [], ◌∷◌, ◌++◌, map, refl, ap, ◌∙◌, append_assoc, inl, inr}
use Rattle.std.specs.Prelude.{All, codes}
use Rattle.std.specs.List.{list_any}
use Rattle.std.proofs.lemmas.Bool.{cases_Bool}
use Rattle.std.proofs.lemmas.List.Elements.{All-nil, All-cons, All-head, All-tail, All-append}
use Rattle.attr_sets.specs.Attributes.{Attributes}
use Rattle.schema_model.specs.Columns.{is_column_type}
use Rattle.dep_model.specs.Dependencies.{Dependency, fd, mvd}
use Rattle.schema_model.specs.Names.{IsName}
use Rattle.schema_model.specs.Schemas.{naming_of, names_of, nullable_of, types_of}
use Rattle.schema_model.specs.declared.column_type.ColumnType.{ColumnType}
use Rattle.schema_model.specs.declared.column_type.ColumnType.TheVariants.{Text, Integer, Date, Timestamp, Decimal, Uuid, Other}
use Rattle.schema_model.specs.declared.naming.Naming.{Naming}
use Rattle.schema_model.specs.declared.naming.Naming.TheVariants.{Bare, Any}
use Rattle.schema_model.specs.Schemas.{Schema}
use Rattle.schema_model.proofs.PlainLemmas.{IsPlain, plain_both}
use Rattle.schema_printer.specs.Printing.{Run, declaring_lines, dependency_text, in_front, is_integer, lines_text, members_from, nullable_lines, run_line, runs_of, same_column, schema_lines, schema_text, set_text, side_text, type_word, words_text}
use Rattle.schema_printer.specs.Spelling.{printed_names_of}
use Rattle.reason_laws.specs.ReasonLines.{is_reason}
use Rattle.reason_laws.proofs.LineLemmas.{AreLines}
use Rattle.reason_laws.proofs.NameTexts.{IsPrinted, dependency_plain, members_printed, names_printed, set_own, side_plain, words_plain}
use Rattle.reason_laws.proofs.NumberTexts.{type_plain}

-- ---- lines of the command's own
record IsOwn (text : List ℕ) : Type 0 where
  plain : IsPlain text
  own : is_reason text ≡ false

own_lines : (lines : List (List ℕ)) → All IsOwn lines → AreLines false (lines_text lines)
own_lines lines all = record {
  lines = lines;
  each = λ k d low. let is = all k d low in is.plain;
  kind = λ k d low. let is = all k d low in is.own;
  whole = refl;
}

run_own : (run : Run) → is_column_type run.column ≡ true → All IsPrinted run.names → IsOwn (run_line run)
run_own run column names = record {
  plain = plain_both (type_word run.column) (words_text run.names) (type_plain run.column column) (words_plain run.names names);
  own = begins run.column (words_text run.names);
}
  where
    begins : (c : ColumnType) (more : List ℕ) → is_reason (type_word c ++ more) ≡ false
    begins Text more = refl
    begins Integer more = refl
    begins Date more = refl
    begins Timestamp more = refl
    begins (Decimal scale) more = refl
    begins Uuid more = refl
    begins (Other text) more = refl

record IsFine (run : Run) : Type 0 where
  column : is_column_type run.column ≡ true
  names : All IsPrinted run.names

front_fine : (column : ColumnType) (name : List ℕ) (runs : List Run) → is_column_type column ≡ true → IsPrinted name → All IsFine runs
    → All IsFine (in_front column name runs)
front_fine column name [] typed printed all =
    All-cons IsFine (record { column = column; names = name ∷ [] }) [] (record { column = typed; names = All-cons IsPrinted name [] printed (All-nil IsPrinted) }) (All-nil IsFine)
front_fine column name (run ∷ runs) typed printed all = elim (cases_Bool (same_column column run.column)) [
  | inl same ↦
      let here = All-head IsFine run runs all in
      rw same (All-cons IsFine (record { column = column; names = name ∷ run.names }) runs
      (record { column = typed; names = All-cons IsPrinted name run.names printed here.names }) (All-tail IsFine run runs all))
  | inr other ↦
      rw other (All-cons IsFine (record { column = column; names = name ∷ [] }) (run ∷ runs)
      (record { column = typed; names = All-cons IsPrinted name [] printed (All-nil IsPrinted) }) all)
]

runs_fine : (columns : List ColumnType) (names : List (List ℕ)) → All (λ c. is_column_type c ≡ true) columns → All IsPrinted names
    → All IsFine (runs_of columns names)
runs_fine [] names typed printed = All-nil IsFine
runs_fine (c ∷ columns) [] typed printed = All-nil IsFine
runs_fine (c ∷ columns) (name ∷ names) typed printed =
    let P : ColumnType → Type 0 = λ (d : ColumnType). is_column_type d ≡ true in
    front_fine c name (runs_of columns names) (All-head P c columns typed) (All-head IsPrinted name names printed)
    (runs_fine columns names (All-tail P c columns typed) (All-tail IsPrinted name names printed))

run_lines_own : (runs : List Run) → All IsFine runs → All IsOwn (map run_line runs)
run_lines_own [] all = All-nil IsOwn
run_lines_own (run ∷ runs) all =
    let here = All-head IsFine run runs all in
    All-cons IsOwn (run_line run) (map run_line runs) (run_own run here.column here.names) (run_lines_own runs (All-tail IsFine run runs all))

declaring_own : (columns : List ColumnType) (names : List (List ℕ)) → All (λ c. is_column_type c ≡ true) columns → All IsPrinted names
    → All IsOwn (declaring_lines columns names)
unfolding declaring_lines
declaring_own columns names typed printed = elim (cases_Bool (list_any is_integer columns)) [
  | inl some ↦
      rw some (All-cons IsOwn (codes "version 2") (map run_line (runs_of columns names)) (record { plain = refl; own = refl })
      (run_lines_own (runs_of columns names) (runs_fine columns names typed printed)))
  | inr none ↦
      rw none (All-cons IsOwn (codes "attributes" ++ words_text names) []
      (record { plain = plain_both (codes "attributes") (words_text names) refl (words_plain names printed); own = refl }) (All-nil IsOwn))
]

nullable_own : (names : List (List ℕ)) → All IsPrinted names → All IsOwn (nullable_lines names)
unfolding nullable_lines
nullable_own [] printed = All-nil IsOwn
nullable_own (name ∷ names) printed =
    All-cons IsOwn (codes "nullable " ++ side_text (name ∷ names)) []
    (record { plain = plain_both (codes "nullable ") (side_text (name ∷ names)) refl (side_plain (name ∷ names) printed); own = refl }) (All-nil IsOwn)

schema_lines_own : (naming : Naming) (columns : List ColumnType) (names : List (List ℕ)) (nullable : Attributes) → All (λ c. is_column_type c ≡ true) columns
    → All IsPrinted names → All IsOwn (schema_lines naming columns names nullable)
unfolding schema_lines
schema_lines_own Bare columns names nullable typed printed = declaring_own columns names typed printed
schema_lines_own Any columns names nullable typed printed =
    All-cons IsOwn (codes "version 3") (map run_line (runs_of columns names) ++ nullable_lines (members_from nullable 0 names))
    (record { plain = refl; own = refl })
    (All-append IsOwn (map run_line (runs_of columns names)) (nullable_lines (members_from nullable 0 names))
    (run_lines_own (runs_of columns names) (runs_fine columns names typed printed))
    (nullable_own (members_from nullable 0 names) (members_printed nullable 0 names printed)))

dependency_own : (names : List (List ℕ)) (d : Dependency) → All IsPrinted names → IsOwn (dependency_text names d)
unfolding dependency_text
dependency_own names d printed = record { plain = dependency_plain names d printed; own = begins d }
  where
    begins : (e : Dependency) → is_reason (dependency_text names e) ≡ false
    begins (fd x y) =
        ap is_reason (append_assoc (set_text names x) (codes " -> ") (set_text names y)) ∙ set_own names x (codes " -> " ++ set_text names y) printed
    begins (mvd x y) =
        ap is_reason (append_assoc (set_text names x) (codes " ->> ") (set_text names y)) ∙ set_own names x (codes " ->> " ++ set_text names y) printed

dependencies_own : (names : List (List ℕ)) (ds : List Dependency) → All IsPrinted names → All IsOwn (map (dependency_text names) ds)
dependencies_own names [] printed = All-nil IsOwn
dependencies_own names (d ∷ ds) printed =
    All-cons IsOwn (dependency_text names d) (map (dependency_text names) ds) (dependency_own names d printed) (dependencies_own names ds printed)

-- a printed schema
pub schema_own : (s : Schema) (ds : List Dependency) → All IsName (names_of s) → AreLines false (schema_text s ds)
unfolding schema_text
schema_own s ds are_names =
    let names = printed_names_of s in
    let printed = names_printed s are_names in
    own_lines (schema_lines (naming_of s) (types_of s) names (nullable_of s) ++ map (dependency_text names) ds)
    (All-append IsOwn (schema_lines (naming_of s) (types_of s) names (nullable_of s)) (map (dependency_text names) ds)
    (schema_lines_own (naming_of s) (types_of s) names (nullable_of s) s.typed.each printed) (dependencies_own names ds printed))
