-- The text of a table's schema means what it declares.
use Rattle.std.proofs.Common.{◌≡◌, ◌<◌, ◌≤◌, ◌+◌, inr, ℕ, All, IsTrue, List, [], ◌∷◌, ◌++◌, length, refl, sym, ap, subst, ◌∙◌, arith, append_assoc}
use Rattle.std.specs.Prelude.{codes, map}
use Rattle.std.proofs.lemmas.List.Elements.{All-nil}
use Rattle.attr_sets.specs.Attributes.{Attributes, IsSubset, below, none}
use Rattle.attr_sets.specs.declared.set.TheConstants.{MOST_ATTRIBUTES}
use Rattle.schema_model.specs.Columns.{is_column_type}
use Rattle.schema_model.specs.declared.column_type.ColumnType.{ColumnType}
use Rattle.schema_model.specs.declared.naming.Naming.TheVariants.{Any, Bare}
use Rattle.lexer.specs.Bytes.{is_number}
use Rattle.lexer.specs.Lines.{line_texts, without_mark}
use Rattle.lexer.specs.Modes as mode
use Rattle.lexer.specs.Pieces.{front_piece, run_piece}
use Rattle.lexer.specs.Tokens.{Mark, lex, led_by_mark}
use Rattle.lexer.specs.declared.token.TokenKind.TheVariants as token
use Rattle.lexer.proofs.Steps.{at_token}
use Rattle.schema_printer.specs.Printing.{lines_text, members_from, nullable_lines, run_line, runs_of, schema_lines}
use Rattle.schema_printer.specs.Spelling.{spelling}
use Rattle.schema_grammar.specs.declared.format.TheConstants.{MOST_DEPENDENCY_LINES}
use Rattle.schema_grammar.specs.declared.format.Format.TheVariants as format
use Rattle.schema_grammar.specs.Declarations.{Declarations, no_declaration}
use Rattle.schema_grammar.specs.Meanings.{HasTokens}
use Rattle.schema_grammar.specs.Printed.{AreReadBack, IsReadBack}
use Rattle.schema_grammar.specs.Schemas.{IsVersionLine, IsVersionedText, MeansAll, MeansLines, MeansSchema}
use Rattle.schema_grammar.specs.Texts.{is_version}
use Rattle.schema_grammar.proofs.PrintedDeclarations.{are_runs, nullable_bytes, nullable_mean, run_columns, run_lines, run_names, runs_bytes, runs_mean, runs_spelled, with_nullable, with_runs}
use Rattle.schema_grammar.proofs.PrintedLexing.{blank_lexed, name_lexed}
use Rattle.schema_grammar.proofs.PrintedTexts.{EachBytes, lines_cut}
use Rattle.schema_grammar.proofs.SpelledWords.{nothing_left}
use Rattle.schema_grammar.proofs.PrintedSchemas.{each_append}
use Rattle.sql_schemas.specs.Keys.{KeyColumns}
use Rattle.sql_schemas.specs.Texts.{key_line}
use Rattle.sql_schemas.proofs.LineLemmas.{IsKeyWithin, each_key, key_numbers, keys_mean, stated}

-- the line `version 3`
full_line : IsVersionLine (codes "version 3") format.Full
unfolding is_version front_piece run_piece is_number
full_line =
    let head : Mark = record { kind = token.Identifier; column = 1; length = length (codes "version"); word = codes "version" } in
    let number : Mark = record { kind = token.Number 3; column = 9; length = 1; word = 51 ∷ [] } in
    record {
      head = head;
      number = number;
      version = 3;
      tokens =
          name_lexed (mode.numbered Bare) 1 (codes "version") (32 ∷ 51 ∷ []) refl refl
          ∙ ap (led_by_mark head) (blank_lexed (mode.numbered Bare) 8 (51 ∷ [])
          ∙ at_token (mode.numbered Bare) 9 (51 ∷ []) (token.Number 3) 1 (omega arith) refl
          ∙ ap (led_by_mark number) (nothing_left (mode.numbered Bare) 10));
      is_word = refl;
      is_number = refl;
      is_read = refl;
    }

-- the parts of a table: names that are read again, types of columns, and those of which a value may be missing
pub record IsTable (names : List (List ℕ)) (columns : List ColumnType) (missing : Attributes) (keys : List KeyColumns) : Type 0 where
  pub some : 0 < length names
  pub within_limit : length names ≤ MOST_ATTRIBUTES
  pub are : AreReadBack format.Full Any names
  pub one_each : length columns ≡ length names
  pub types : All (λ column. IsTrue (is_column_type column)) columns
  pub missing_within : IsSubset missing (below (length names))
  pub keys_within : All (IsKeyWithin (length names)) keys
  pub keys_within_limit : length keys ≤ MOST_DEPENDENCY_LINES

abbrev named : List (List ℕ) → List ColumnType → Declarations
named names columns =
    record { names = names; columns = columns; deps = []; lines = []; naming = Any; nullable = none }

-- what the whole text declares
abbrev pub whole_of : List (List ℕ) → List ColumnType → Attributes → List KeyColumns → List ℕ → Declarations
whole_of names columns missing keys lines = record {
  names = names;
  columns = columns;
  deps = stated (length names) missing keys;
  lines = lines;
  naming = Any;
  nullable = missing;
}

-- the lines after the version line
abbrev column_lines : List (List ℕ) → List ColumnType → Attributes → List (List ℕ)
column_lines names columns missing =
    run_lines Any (runs_of columns names) ++ nullable_lines (members_from missing 0 (map (spelling Any) names))

abbrev key_lines : List (List ℕ) → Attributes → List KeyColumns → List (List ℕ)
key_lines names missing keys = map (key_line (map (spelling Any) names) missing) keys

columns_mean : (names : List (List ℕ)) (columns : List ColumnType) (missing : Attributes) (keys : List KeyColumns)
    → IsTable names columns missing keys
    → (lines : List ℕ) × MeansAll format.Full 2 (column_lines names columns missing ++ (key_lines names missing keys ++ [] ∷ []))
    (whole_of names columns missing keys lines)
columns_mean names columns missing keys is =
    let runs = runs_of columns names in
    let nullable = nullable_lines (members_from missing 0 (map (spelling Any) names)) in
    let last = key_lines names missing keys ++ [] ∷ [] in
    let number = (2 + length runs) + length nullable in
    let whole = whole_of names columns missing keys (key_numbers missing number keys) in
    let said = keys_mean number (with_nullable (named names columns) missing) missing keys is.are is.keys_within (let limit = is.keys_within_limit in omega (arith, limit)) in
    let after_names = nullable_mean (2 + length runs) (named names columns) missing last whole is.are is.missing_within refl said in
    let cut_up = are_runs format.Full columns names is.one_each is.types in
    let back : run_names runs ≡ names = cut_up.names_are in
    let types : run_columns runs ≡ columns = cut_up.columns_are in
    let filled : with_runs (no_declaration Any) runs ≡ named names columns =
    (λ i. record { names = back i; columns = types i; deps = []; lines = []; naming = Any; nullable = none }) in
    let of : Declarations → Type 0 = λ d. MeansLines format.Full (2 + length runs) d (nullable ++ last) whole in
    let means = runs_mean format.Full 2 (no_declaration Any) names runs (nullable ++ last) whole 0 is.are
    (record { whole = sym back; size = refl }) is.within_limit cut_up.not_empty (subst of (sym filled) after_names) in
    let of_lines : List (List ℕ) → Type 0 = λ ls. MeansAll format.Full 2 ls whole in (
      key_numbers missing number keys,
      subst of_lines (sym (append_assoc (run_lines Any runs) nullable last)) means,
    )

columns_bytes : (names : List (List ℕ)) (columns : List ColumnType) (missing : Attributes) (keys : List KeyColumns)
    → IsTable names columns missing keys → EachBytes (column_lines names columns missing)
columns_bytes names columns missing keys is =
    let runs = runs_of columns names in
    let cut_up = are_runs format.Full columns names is.one_each is.types in
    each_append (run_lines Any runs) (nullable_lines (members_from missing 0 (map (spelling Any) names)))
    (runs_bytes format.Full runs cut_up.not_empty
    (subst (All (IsReadBack format.Full Any)) (sym cut_up.names_are) is.are.each))
    (nullable_bytes missing names is.are)

-- the lines of the text: those of the schema, and those of the keys
lines_are : (names : List (List ℕ)) (columns : List ColumnType) (missing : Attributes) (keys : List KeyColumns)
    → schema_lines Any columns (map (spelling Any) names) missing ++ key_lines names missing keys
    ≡ codes "version 3" ∷ (column_lines names columns missing ++ key_lines names missing keys)
unfolding schema_lines
lines_are names columns missing keys =
    ap (λ (ls : List (List ℕ)). codes "version 3" ∷ ((ls ++ nullable_lines (members_from missing 0 (map (spelling Any) names))) ++ key_lines names missing keys))
    (ap (map run_line) (runs_spelled Any columns names))

pub table_means : (names : List (List ℕ)) (columns : List ColumnType) (missing : Attributes) (keys : List KeyColumns)
    → IsTable names columns missing keys
    → (lines : List ℕ) × MeansSchema (lines_text (schema_lines Any columns (map (spelling Any) names) missing ++ key_lines names missing keys))
    (whole_of names columns missing keys lines)
table_means names columns missing keys is =
    let (lines, means) = columns_mean names columns missing keys is in
    let front = column_lines names columns missing in
    let last = key_lines names missing keys in
    let all = codes "version 3" ∷ (front ++ last) in
    let whole = whole_of names columns missing keys lines in
    let bytes : EachBytes all = (refl, each_append front last (columns_bytes names columns missing keys is) (each_key names missing keys is.are)) in
    let unmarked : without_mark (lines_text all) ≡ lines_text all = refl in
    let cut : line_texts (without_mark (lines_text all)) ≡ codes "version 3" ∷ (front ++ (last ++ [] ∷ [])) =
    ap line_texts unmarked ∙ lines_cut all bytes ∙ ap (λ (ls : List (List ℕ)). codes "version 3" ∷ ls) (append_assoc front last ([] ∷ [])) in
    let of : List (List ℕ) → Type 0 = λ ls. IsVersionedText ls whole in
    let text : MeansSchema (lines_text all) whole = record {
      not_empty = is.some;
      lines = inr (subst of (sym cut) (record {
        format = format.Full;
        before = [];
        version = codes "version 3";
        later = front ++ (last ++ [] ∷ []);
        cut = refl;
        blank = All-nil (λ line. HasTokens (lex (mode.numbered Bare) line) []);
        versioned = full_line;
        declared = means;
      }));
    } in (
      lines,
      subst (λ (ls : List (List ℕ)). MeansSchema (lines_text ls) whole) (sym (lines_are names columns missing keys)) text,
    )
