-- Names of columns as a schema of text columns without dependencies, and its text.
use Rattle.std.proofs.Common.{◌≡◌, ◌<◌, ℕ, zero, suc, Bool, true, false, if◌then◌else◌, List, [], ◌∷◌, ◌++◌, length, map, get_or, replicate, subst, refl, ap, sym, ◌∙◌, arith}
use Rattle.std.proofs.lemmas.Bool.{and_parts, true≢false}
use Rattle.std.proofs.lemmas.List.{length-map, length-replicate}
use Rattle.std.proofs.lemmas.List.Elements.{All-replicate}
use Rattle.std.proofs.lemmas.List.Sums.{AllPass-from_list_all}
use Rattle.std.specs.List.{list_all, list_any}
use Rattle.std.specs.Prelude.{not, codes, IsTrue, All}
use Rattle.attr_sets.specs.Attributes.{Attributes, none}
use Rattle.schema_model.proofs.ColumnLemmas.{AreDeclared-text}
use Rattle.schema_model.specs.Columns.{is_column_type}
use Rattle.dep_model.specs.Dependencies.{Dependency}
use Rattle.schema_model.specs.Names.{is_bare_name}
use Rattle.schema_model.specs.Schemas.{naming_of, types_of, names_of, nullable_of}
use Rattle.schema_model.specs.Validity.{AreDeclared}
use Rattle.schema_model.specs.declared.column_type.ColumnType.{ColumnType}
use Rattle.schema_model.specs.declared.column_type.ColumnType.TheVariants.{Text}
use Rattle.schema_model.specs.declared.naming.Naming.{Naming}
use Rattle.schema_model.specs.declared.naming.Naming.TheVariants.{Bare, Any}
use Rattle.schema_model.specs.Schemas.{Schema}
use Rattle.headed_rows.specs.Headers.{is_plain_name, naming_under}
use Rattle.schema_grammar.specs.Words.{is_reserved}
use Rattle.schema_grammar.specs.declared.format.Format.TheVariants as format
use Rattle.schema_printer.specs.Printing.{Run, schema_text, schema_lines, declaring_lines, nullable_lines, dependency_text, lines_text, words_text, members_from, runs_of, run_line, in_front, is_integer}
use Rattle.schema_printer.specs.Spelling.{spelling, printed_names_of}
use Rattle.schema_printer.proofs.PrintLemmas.{members_empty}
use Rattle.desk_discovery.specs.Discoveries.{HasTextColumns, column_lines, rules_text}

-- names that stand bare are bare names
headed_bare : (names : List (List ℕ)) → naming_under names ≡ Bare → All (λ name. IsTrue (is_bare_name name)) names
headed_bare names bare = by (list_all is_plain_name names) refl bare
  where
    by : (plain : Bool) → list_all is_plain_name names ≡ plain → (if plain then Bare else Any) ≡ Bare
        → All (λ name. IsTrue (is_bare_name name)) names
    by true all same = λ i d within.
        let plain = AllPass-from_list_all is_plain_name names all i d within in
        (and_parts (is_bare_name (get_or names i d)) (not (is_reserved format.Plain (get_or names i d))) plain).0
    by false some same = absurd (any_not_bare same)
      where
        any_not_bare : Any ≡ Bare → ⊥
        any_not_bare h = cc

texts_declared : (names : List (List ℕ)) → AreDeclared (naming_under names) names (replicate (length names) Text) none
texts_declared names = record {
  one_each = length-replicate (length names) Text;
  each = All-replicate (λ column. IsTrue (is_column_type column)) (length names) Text refl;
  nullable_within = λ k inside. absurd (true≢false (sym inside));
  bare = λ is_bare. (AreDeclared-text names none (headed_bare names is_bare) (λ k. refl)).bare refl;
}

pub headed_declared : (names : List (List ℕ)) (naming : Naming) (columns : List ColumnType) (nullable : Attributes) (n : ℕ)
    → naming ≡ naming_under names → columns ≡ replicate n Text → n ≡ length names → nullable ≡ none
    → AreDeclared naming names columns nullable
headed_declared names naming columns nullable n naming_is texts count empty =
    subst (λ (m : Naming). AreDeclared m names columns nullable) (sym naming_is)
    (subst (λ (ys : List ColumnType). AreDeclared (naming_under names) names ys nullable)
    (sym (texts ∙ ap (λ (m : ℕ). replicate m Text) count))
    (subst (λ (y : Attributes). AreDeclared (naming_under names) names (replicate (length names) Text) y) (sym empty)
    (texts_declared names)))

-- ---- the text of such a schema
no_integer : (n : ℕ) → list_any is_integer (replicate n Text) ≡ false
no_integer zero = refl
no_integer (suc n) = no_integer n

-- the columns are one run
one_run : (printed : List (List ℕ)) → 0 < length printed
    → runs_of (replicate (length printed) Text) printed ≡ record { column = Text; names = printed } ∷ []
one_run [] some = absurd (omega (arith, some))
one_run (name ∷ []) some = refl
one_run (name ∷ next ∷ rest) some = ap (in_front Text name) (one_run (next ∷ rest) (omega arith))

texts_lines : (naming : Naming) (printed : List (List ℕ)) → 0 < length printed
    → schema_lines naming (replicate (length printed) Text) printed none ≡ column_lines naming printed
unfolding schema_lines declaring_lines nullable_lines
texts_lines Bare printed some =
    ap (λ (b : Bool). if b then codes "version 2" ∷ map run_line (runs_of (replicate (length printed) Text) printed)
    else (codes "attributes" ++ words_text printed) ∷ []) (no_integer (length printed))
texts_lines Any printed some =
    ap (λ (runs : List Run). codes "version 3" ∷ (map run_line runs ++ nullable_lines (members_from none 0 printed)))
    (one_run printed some)
    ∙ ap (λ (missing : List (List ℕ)). codes "version 3" ∷ (codes "text" ++ words_text printed) ∷ nullable_lines missing)
    (members_empty none 0 printed (λ k. refl))

-- the text of a schema, where these are its parts
text_of : Naming → List ColumnType → List (List ℕ) → Attributes → List Dependency → List ℕ
text_of naming columns names nullable ds =
    lines_text (schema_lines naming columns (map (spelling naming) names) nullable
    ++ map (dependency_text (map (spelling naming) names)) ds)

text_parts : (s : Schema) (ds : List Dependency)
    → schema_text s ds ≡ text_of (naming_of s) (types_of s) (names_of s) (nullable_of s) ds
unfolding schema_text printed_names_of text_of
text_parts s ds = refl

texts_found : (names : List (List ℕ)) (ds : List Dependency) → 0 < length names
    → text_of (naming_under names) (replicate (length names) Text) names none ds ≡ rules_text names ds
unfolding text_of
texts_found names ds some =
    let naming = naming_under names in
    let printed = map (spelling naming) names in
    let count : length printed ≡ length names = length-map names (spelling naming) in
    ap (λ (lines : List (List ℕ)). lines_text (lines ++ map (dependency_text printed) ds))
    (ap (λ (n : ℕ). schema_lines naming (replicate n Text) printed none) (sym count)
    ∙ texts_lines naming printed (omega (arith, count, some)))

pub schema_found : (names : List (List ℕ)) (s : Schema) (ds : List Dependency) → 0 < length names → HasTextColumns names s
    → schema_text s ds ≡ rules_text names ds
schema_found names s ds some has =
    text_parts s ds
    ∙ ap (λ (naming : Naming). text_of naming (types_of s) (names_of s) (nullable_of s) ds) has.naming
    ∙ ap (λ (columns : List ColumnType). text_of (naming_under names) columns (names_of s) (nullable_of s) ds) has.types
    ∙ ap (λ (ys : List (List ℕ)). text_of (naming_under names) (replicate (length names) Text) ys (nullable_of s) ds) has.names
    ∙ ap (λ (x : Attributes). text_of (naming_under names) (replicate (length names) Text) names x ds) has.nullable
    ∙ texts_found names ds some
