-- What is printed of a schema means it, also with comments after its dependencies.
use Rattle.std.proofs.Common.{◌≡◌, ◌<◌, ◌≤◌, ◌+◌, inl, inr, ℕ, Bool, true, false, IsTrue, All, List, [], ◌∷◌, ◌++◌, length, get_or, Some, refl, sym, ◌∙◌, ap, subst, arith, append_assoc}
use mathlib.Core.Path.{fun_ext}
use Rattle.std.specs.Prelude.{codes, map}
use Rattle.std.specs.List.{list_any, Contains}
use Rattle.std.proofs.lemmas.Bool.{false≢true}
use Rattle.std.proofs.lemmas.List.{append-nil, length-map}
use Rattle.std.proofs.lemmas.List.Elements.{All-nil, All-tail}
use Rattle.std.proofs.lemmas.List.Folds.{Any-from_list_any}
use Rattle.attr_sets.specs.Attributes.{Attributes, none, below, IsSubset}
use Rattle.attr_sets.specs.declared.set.TheConstants.{MOST_ATTRIBUTES}
use Rattle.schema_model.specs.declared.column_type.ColumnType.{ColumnType}
use Rattle.schema_model.specs.declared.column_type.ColumnType.TheVariants.{Text, Integer}
use Rattle.schema_model.specs.declared.naming.Naming.{Naming}
use Rattle.schema_model.specs.declared.naming.Naming.TheVariants.{Bare, Any}
use Rattle.schema_model.specs.Schemas.{Schema}
use Rattle.dep_model.specs.Dependencies.{Dependency, IsWithin}
use Rattle.dep_model.specs.Deps.{dependency_of}
use Rattle.schema_model.specs.Schemas.{naming_of, names_of, types_of, nullable_of, deps_of, theory_of, universe_of}
use Rattle.dep_model.proofs.DepLemmas.{dependencies_all-from}
use Rattle.schema_model.specs.Columns.{is_plain_type}
use Rattle.schema_model.specs.Names.{is_type_name}
use Rattle.schema_model.specs.Validity.{AreBare}
use Rattle.lexer.specs.Modes as mode
use Rattle.lexer.specs.declared.piece.Piece.TheVariants as piece
use Rattle.lexer.specs.declared.token.TokenKind.TheVariants as token
use Rattle.lexer.specs.Bytes.{is_number}
use Rattle.lexer.specs.Lines.{line_texts, without_mark}
use Rattle.lexer.specs.Pieces.{front_piece, run_piece}
use Rattle.lexer.specs.Tokens.{Mark, lex, led_by_mark}
use Rattle.lexer.proofs.Steps.{at_token}
use Rattle.schema_grammar.specs.declared.format.TheConstants.{MOST_DEPENDENCY_LINES}
use Rattle.schema_grammar.specs.declared.format.Format.{Format}
use Rattle.schema_grammar.specs.declared.format.Format.TheVariants as format
use Rattle.schema_grammar.specs.Declarations.{Declarations, no_declaration}
use Rattle.schema_grammar.specs.LineTokens.{naming_in}
use Rattle.schema_grammar.specs.Meanings.{HasTokens}
use Rattle.schema_grammar.specs.Printed.{IsReadBack, AreReadBack}
use Rattle.schema_grammar.specs.Schemas.{MeansLines, MeansAll, IsVersionLine, IsPlainText, IsVersionedText, MeansSchema, has_version_line}
use Rattle.schema_grammar.specs.Texts.{is_version, format_of_version}
use Rattle.schema_grammar.specs.Words.{is_reserved, line_kind}
use Rattle.schema_printer.specs.Printing.{words_text, dependency_text, members_from, run_line, runs_of, is_integer, declaring_lines, nullable_lines, schema_lines, lines_text, schema_text}
use Rattle.schema_printer.specs.Spelling.{spelling, printed_names_of}
use Rattle.schema_printer.proofs.PrintLemmas.{integer_is}
use Rattle.schema_grammar.proofs.PrintedColumns.{IsPrinted, word_run}
use Rattle.schema_grammar.proofs.PrintedDeclarations.{with_names, declaring_mean, are_runs, runs_spelled, run_names, run_columns, run_lines, with_runs, runs_mean, runs_bytes, with_nullable, nullable_mean, nullable_bytes}
use Rattle.schema_grammar.proofs.PrintedDependencies.{AreEnds, AreEnds-none, line_numbers, dependencies_mean, ended_lines, ended_lines-none, each_ended, no_ends}
use Rattle.schema_grammar.proofs.PrintedLexing.{Apart, name_lexed, blank_lexed}
use Rattle.schema_grammar.proofs.PrintedTexts.{Bytes, bytes_both, EachBytes, lines_cut}
use Rattle.schema_grammar.proofs.SpelledWords.{names_bytes, nothing_left}

-- the lines of dependencies, and the empty line after the last line feed
abbrev last_lines : Naming → List (List ℕ) → List Dependency → List (List ℕ) → List (List ℕ)
last_lines naming names deps tails = ended_lines (map (spelling naming) names) deps tails ++ [] ∷ []

-- what a text with these lines means
abbrev pub MeansText : List (List ℕ) → Declarations → Type 0
MeansText lines whole = MeansSchema (lines_text lines) whole

pub each_append : (xs ys : List (List ℕ)) → EachBytes xs → EachBytes ys → EachBytes (xs ++ ys)
each_append [] ys h g = g
each_append (x ∷ xs) ys (here, rest) g = (here, each_append xs ys rest g)

-- a printed text is cut into its lines and an empty one
text_cut : (f : Format) (naming : Naming) (lines names : List (List ℕ)) (deps : List Dependency) (tails : List (List ℕ))
    → EachBytes lines → AreReadBack f naming names → AreEnds deps tails
    → line_texts (lines_text (lines ++ ended_lines (map (spelling naming) names) deps tails))
    ≡ lines ++ last_lines naming names deps tails
text_cut f naming lines names deps tails each are ends =
    let more = ended_lines (map (spelling naming) names) deps tails in
    lines_cut (lines ++ more) (each_append lines more each (each_ended f naming names deps tails are ends))
    ∙ append_assoc lines more ([] ∷ [])

-- ---- a text without a version line
abbrev declared : Naming → List (List ℕ) → List ColumnType → Attributes → List Dependency → ℕ → Declarations
declared naming names columns nullable deps number = record {
  names = names;
  columns = columns;
  deps = deps;
  lines = line_numbers number deps;
  naming = naming;
  nullable = nullable;
}

plain_means : (names : List (List ℕ)) (deps : List Dependency) (tails : List (List ℕ))
    → AreReadBack format.Plain Bare names → 0 < length names
    → length names ≤ MOST_ATTRIBUTES → All (IsWithin (below (length names))) deps → length deps ≤ MOST_DEPENDENCY_LINES
    → AreEnds deps tails
    → MeansText ((codes "attributes" ++ words_text (map (spelling Bare) names))
    ∷ ended_lines (map (spelling Bare) names) deps tails)
    (declared Bare names (map (λ (w : List ℕ). Text) names) none deps 2)
unfolding line_kind has_version_line is_version
plain_means names deps tails are some within_limit within deps_within_limit ends =
    let words = words_text (map (spelling Bare) names) in
    let line = codes "attributes" ++ words in
    let rest = last_lines Bare names deps tails in
    let bytes = bytes_both (codes "attributes") words refl (names_bytes format.Plain Bare names are.each) in
    let cut = text_cut format.Plain Bare (line ∷ []) names deps tails (bytes, tt) are ends in
    let apart = elim names as (λ ws. Apart (words_text (map (spelling Bare) ws))) [ [] ↦ tt | w ∷ ws ↦ refl ] in
    let no_version : has_version_line (line ∷ rest) ≡ false =
    rw (name_lexed (mode.numbered Bare) 1 (codes "attributes") words refl apart) refl in
    let after_names = with_names (no_declaration Bare) names Text in
    let here = declaring_mean format.Plain Text 1 (no_declaration Bare) (codes "attributes") names names [] 0 are
    (record { whole = sym (append-nil names); size = refl }) within_limit some
    (word_run format.Plain (codes "attributes") Text names refl refl are.each) in
    let more = dependencies_mean format.Plain 2 after_names deps tails are within (omega arith) ends in
    let of : List (List ℕ) → Type 0 =
    λ ls. IsPlainText ls (declared Bare names (map (λ (w : List ℕ). Text) names) none deps 2) in
    record {
      not_empty = some;
      lines = inl (subst of (sym cut) (record { no_version = no_version; declared = (after_names, here, more) }));
    }

-- ---- a text with a version line
version_line : (digit version : ℕ) (f : Format)
    → front_piece (mode.numbered Bare) (digit ∷ []) ≡ piece.Token (token.Number version) 1
    → format_of_version version ≡ Some f → IsVersionLine (codes "version " ++ digit ∷ []) f
unfolding is_version
version_line digit version f front read =
    let head : Mark = record { kind = token.Identifier; column = 1; length = length (codes "version"); word = codes "version" } in
    let number : Mark = record { kind = token.Number version; column = 9; length = 1; word = digit ∷ [] } in
    record {
      head = head;
      number = number;
      version = version;
      tokens =
          name_lexed (mode.numbered Bare) 1 (codes "version") (32 ∷ digit ∷ []) refl refl
          ∙ ap (led_by_mark head) (blank_lexed (mode.numbered Bare) 8 (digit ∷ [])
          ∙ at_token (mode.numbered Bare) 9 (digit ∷ []) (token.Number version) 1 (omega arith) (sym front)
          ∙ ap (led_by_mark number) (nothing_left (mode.numbered Bare) 10));
      is_word = refl;
      is_number = refl;
      is_read = read;
    }

typed_line : IsVersionLine (codes "version 2") format.Typed
unfolding front_piece run_piece is_number
typed_line = version_line 50 2 format.Typed refl refl

full_line : IsVersionLine (codes "version 3") format.Full
unfolding front_piece run_piece is_number
full_line = version_line 51 3 format.Full refl refl

-- a version line, and then lines that mean the schema
versioned_means : (f : Format) (version : List ℕ) (names : List (List ℕ)) (lines : List (List ℕ)) (deps : List Dependency) (tails : List (List ℕ)) (whole : Declarations)
    → IsVersionLine version f → Bytes version → EachBytes lines → AreReadBack f (naming_in f) names → AreEnds deps tails
    → without_mark (lines_text ((version ∷ lines) ++ ended_lines (map (spelling (naming_in f)) names) deps tails))
    ≡ lines_text ((version ∷ lines) ++ ended_lines (map (spelling (naming_in f)) names) deps tails)
    → 0 < length whole.names → MeansAll f 2 (lines ++ last_lines (naming_in f) names deps tails) whole
    → MeansText ((version ∷ lines) ++ ended_lines (map (spelling (naming_in f)) names) deps tails) whole
versioned_means f version names lines deps tails whole is bytes each are ends unmarked some means =
    let naming = naming_in f in
    let cut = ap line_texts unmarked ∙ text_cut f naming (version ∷ lines) names deps tails (bytes, each) are ends in
    let of : List (List ℕ) → Type 0 = λ ls. IsVersionedText ls whole in
    record {
      not_empty = some;
      lines = inr (subst of (sym cut) (record {
        format = f;
        before = [];
        version = version;
        later = lines ++ last_lines naming names deps tails;
        cut = refl;
        blank = All-nil (λ line. HasTokens (lex (mode.numbered Bare) line) []);
        versioned = is;
        declared = means;
      }));
    }

-- the parts of a schema that are printed with a version line
record IsPrintedWith (f : Format) (columns : List ColumnType) (names : List (List ℕ)) (deps : List Dependency) : Type 0 where
  some : 0 < length names
  within_limit : length names ≤ MOST_ATTRIBUTES
  are : AreReadBack f (naming_in f) names
  one_each : length columns ≡ length names
  printed : All (IsPrinted f) columns
  within : All (IsWithin (below (length names))) deps
  deps_within_limit : length deps ≤ MOST_DEPENDENCY_LINES

-- after the names and columns
abbrev named : Naming → List (List ℕ) → List ColumnType → Declarations
named naming names columns =
    record { names = names; columns = columns; deps = []; lines = []; naming = naming; nullable = none }

-- lines that declare the names, and then others
named_mean : (f : Format) (columns : List ColumnType) (names : List (List ℕ)) (deps : List Dependency)
    → IsPrintedWith f columns names deps → (rest : List (List ℕ)) (whole : Declarations)
    → MeansLines f (2 + length (runs_of columns names)) (named (naming_in f) names columns) rest whole
    → MeansAll f 2 (run_lines (naming_in f) (runs_of columns names) ++ rest) whole
named_mean f columns names deps is rest whole later =
    let runs = runs_of columns names in
    let cut_up = are_runs f columns names is.one_each is.printed in
    let back : run_names runs ≡ names = cut_up.names_are in
    let types : run_columns runs ≡ columns = cut_up.columns_are in
    let filled : with_runs (no_declaration (naming_in f)) runs ≡ named (naming_in f) names columns =
    (λ i. record { names = back i; columns = types i; deps = []; lines = []; naming = naming_in f; nullable = none }) in
    let of : Declarations → Type 0 = λ d. MeansLines f (2 + length runs) d rest whole in
    runs_mean f 2 (no_declaration (naming_in f)) names runs rest whole 0 is.are
    (record { whole = sym back; size = refl }) is.within_limit cut_up.not_empty (subst of (sym filled) later)

named_bytes : (f : Format) (columns : List ColumnType) (names : List (List ℕ)) (deps : List Dependency)
    → IsPrintedWith f columns names deps → EachBytes (run_lines (naming_in f) (runs_of columns names))
named_bytes f columns names deps is =
    let cut_up = are_runs f columns names is.one_each is.printed in
    runs_bytes f (runs_of columns names) cut_up.not_empty
    (subst (All (IsReadBack f (naming_in f))) (sym cut_up.names_are) is.are.each)

typed_means : (columns : List ColumnType) (names : List (List ℕ)) (deps : List Dependency) (tails : List (List ℕ))
    → IsPrintedWith format.Typed columns names deps → AreEnds deps tails
    → MeansText ((codes "version 2" ∷ run_lines Bare (runs_of columns names)) ++ ended_lines (map (spelling Bare) names) deps tails)
    (declared Bare names columns none deps (2 + length (runs_of columns names)))
typed_means columns names deps tails is ends =
    versioned_means format.Typed (codes "version 2") names (run_lines Bare (runs_of columns names)) deps tails _ typed_line refl
    (named_bytes format.Typed columns names deps is) is.are ends refl is.some
    (named_mean format.Typed columns names deps is (last_lines Bare names deps tails) _
    (dependencies_mean format.Typed (2 + length (runs_of columns names)) (named Bare names columns) deps tails is.are is.within
    (omega (arith, is.deps_within_limit)) ends))

full_means : (columns : List ColumnType) (names : List (List ℕ)) (nullable : Attributes) (deps : List Dependency)
    (tails : List (List ℕ)) → IsPrintedWith format.Full columns names deps → IsSubset nullable (below (length names))
    → AreEnds deps tails
    → (number : ℕ) × MeansText (schema_lines Any columns (map (spelling Any) names) nullable ++ ended_lines (map (spelling Any) names) deps tails)
    (declared Any names columns nullable deps number)
unfolding schema_lines
full_means columns names nullable deps tails is within ends =
    let runs = run_lines Any (runs_of columns names) in
    let missing = nullable_lines (members_from nullable 0 (map (spelling Any) names)) in
    let last = last_lines Any names deps tails in
    let number = (2 + length (runs_of columns names)) + length missing in
    let whole = declared Any names columns nullable deps number in
    let same : map run_line (runs_of columns (map (spelling Any) names)) ≡ runs = ap (map run_line) (runs_spelled Any columns names) in
    let stated = dependencies_mean format.Full number (with_nullable (named Any names columns) nullable) deps tails is.are is.within
    (omega (arith, is.deps_within_limit)) ends in
    let after_names = nullable_mean (2 + length (runs_of columns names)) (named Any names columns) nullable last whole is.are within refl stated in
    let means = named_mean format.Full columns names deps is (missing ++ last) whole after_names in
    let bytes = each_append runs missing (named_bytes format.Full columns names deps is) (nullable_bytes nullable names is.are) in
    let of_lines : List (List ℕ) → Type 0 = λ ls. MeansAll format.Full 2 ls whole in
    let of : List (List ℕ) → Type 0 = λ ls. MeansText ((codes "version 3" ∷ (ls ++ missing)) ++ ended_lines (map (spelling Any) names) deps tails) whole in (
      number,
      subst of (sym same) (versioned_means format.Full (codes "version 3") names (runs ++ missing) deps tails whole full_line refl
          bytes is.are ends refl is.some (subst of_lines (sym (append_assoc runs missing last)) means)),
    )

-- ---- a schema
-- text columns alone
all_text : (columns : List ColumnType) (names : List (List ℕ)) → length columns ≡ length names
    → All (λ column. IsTrue (is_plain_type column)) columns → list_any is_integer columns ≡ false
    → map (λ (w : List ℕ). Text) names ≡ columns
all_text [] [] e plain none = refl
all_text [] (name ∷ names) e plain none = absurd (omega arith)
all_text (column ∷ columns) [] e plain none = absurd (omega arith)
all_text (Text ∷ columns) (name ∷ names) e plain none =
    ap (λ t. Text ∷ t) (all_text columns names (omega arith) (All-tail (λ c. IsTrue (is_plain_type c)) Text columns plain) none)
all_text (Integer ∷ columns) (name ∷ names) e plain none = cc
all_text (column ∷ columns) (name ∷ names) e plain none = absurd (false≢true (plain 0 Text (omega arith)))

-- names of a text with an integer column
typed_names : (columns : List ColumnType) (names : List (List ℕ)) → AreReadBack format.Plain Bare names
    → (Contains columns Integer → All (λ name. is_type_name name ≡ false) names) → list_any is_integer columns ≡ true
    → AreReadBack format.Typed Bare names
unfolding is_reserved
typed_names columns names are no_type_name some = record {
  each = λ k d h. ((are.each k d h).0, rw ((are.each k d h).1, no_type_name has k d h) refl);
  differ = are.differ;
}
  where
    has : Contains columns Integer
    has =
        let any = Any-from_list_any is_integer columns some in
        let is_one : any.1 ≡ Integer = integer_is any.1 any.4 in
        (any.0, any.2, ap (get_or columns any.0) (sym is_one) ∙ any.3 ∙ is_one)

-- what is printed of these parts of a schema means them
abbrev pub Means : Naming → List ColumnType → List (List ℕ) → Attributes → List Dependency → List (List ℕ) → Type 0
Means naming columns names nullable deps tails =
    (lines : List ℕ) × MeansText (schema_lines naming columns (map (spelling naming) names) nullable
    ++ ended_lines (map (spelling naming) names) deps tails)
    (record { names = names; columns = columns; deps = deps; lines = lines; naming = naming; nullable = nullable })

bare_means : (s : Schema) (tails : List (List ℕ)) → naming_of s ≡ Bare → length (theory_of s) ≤ MOST_DEPENDENCY_LINES
    → AreReadBack format.Plain Bare (names_of s)
    → All (IsWithin (universe_of s)) (theory_of s) → AreEnds (theory_of s) tails
    → Means Bare (types_of s) (names_of s) (nullable_of s) (theory_of s) tails
unfolding schema_lines declaring_lines
bare_means s tails bare deps_within_limit are within ends = by_cases (list_any is_integer (types_of s)) refl
  where
    parts : AreBare (names_of s) (types_of s) (nullable_of s)
    parts = s.typed.bare bare

    unset : nullable_of s ≡ none
    unset = fun_ext (λ k. parts.none_nullable k)

    by_cases : (b : Bool) → list_any is_integer (types_of s) ≡ b
        → Means Bare (types_of s) (names_of s) (nullable_of s) (theory_of s) tails
    by_cases true some =
        let means = typed_means (types_of s) (names_of s) (theory_of s) tails (record {
          some = s.valid.names_not_empty;
          within_limit = s.valid.names_within_limit;
          are = typed_names (types_of s) (names_of s) are parts.are_columns.no_type_name some;
          one_each = parts.are_columns.one_each;
          printed = parts.are_columns.plain;
          within = within;
          deps_within_limit = deps_within_limit;
        }) ends in
        rw (unset, some) (
          line_numbers (2 + length (runs_of (types_of s) (names_of s))) (theory_of s),
          rw (runs_spelled Bare (types_of s) (names_of s)) means,
        )
    by_cases false none_integer =
        let means = plain_means (names_of s) (theory_of s) tails are s.valid.names_not_empty
        s.valid.names_within_limit within deps_within_limit ends in
        let text = all_text (types_of s) (names_of s) parts.are_columns.one_each parts.are_columns.plain none_integer in
        rw (unset, none_integer) (line_numbers 2 (theory_of s), rw text at means)

-- what is printed of a schema means it, where its names are read again, whatever ends the lines of its dependencies
pub ended-schema-law : (s : Schema) (tails : List (List ℕ)) → length (deps_of s) ≤ MOST_DEPENDENCY_LINES
    → All (IsReadBack format.Plain (naming_of s)) (names_of s) → AreEnds (theory_of s) tails
    → Means (naming_of s) (types_of s) (names_of s) (nullable_of s) (theory_of s) tails
ended-schema-law s tails within_limit each ends = by_naming (naming_of s) refl
  where
    size : length (theory_of s) ≤ MOST_DEPENDENCY_LINES
    size = let same = length-map (deps_of s) dependency_of in omega (arith, same, within_limit)

    within : All (IsWithin (universe_of s)) (theory_of s)
    within = dependencies_all-from (IsWithin (universe_of s)) (deps_of s) s.valid.deps_within

    as_named : (naming : Naming) → naming_of s ≡ naming → Means naming (types_of s) (names_of s) (nullable_of s) (theory_of s) tails
        → Means (naming_of s) (types_of s) (names_of s) (nullable_of s) (theory_of s) tails
    as_named naming same means =
        subst (λ (n : Naming). Means n (types_of s) (names_of s) (nullable_of s) (theory_of s) tails) (sym same) means

    by_naming : (naming : Naming) → naming_of s ≡ naming
        → Means (naming_of s) (types_of s) (names_of s) (nullable_of s) (theory_of s) tails
    by_naming Bare bare =
        let all = subst (λ (n : Naming). All (IsReadBack format.Plain n) (names_of s)) bare each in
        as_named Bare bare (bare_means s tails bare size (record { each = all; differ = s.valid.names_differ }) within ends)
    by_naming Any any =
        let means = full_means (types_of s) (names_of s) (nullable_of s) (theory_of s) tails (record {
          some = s.valid.names_not_empty;
          within_limit = s.valid.names_within_limit;
          are = record { each = subst (λ (n : Naming). All (IsReadBack format.Plain n) (names_of s)) any each; differ = s.valid.names_differ };
          one_each = s.typed.one_each;
          printed = s.typed.each;
          within = within;
          deps_within_limit = size;
        }) s.typed.nullable_within ends in
        as_named Any any (line_numbers means.0 (theory_of s), means.1)

-- and so where nothing ends them
pub printed-schema-law : (s : Schema) → length (deps_of s) ≤ MOST_DEPENDENCY_LINES
    → All (IsReadBack format.Plain (naming_of s)) (names_of s)
    → (lines : List ℕ) × MeansSchema (schema_text s (theory_of s)) (record {
      names = names_of s;
      columns = types_of s;
      deps = theory_of s;
      lines = lines;
      naming = naming_of s;
      nullable = nullable_of s;
    })
unfolding schema_text printed_names_of
printed-schema-law s within_limit each =
    let heading = schema_lines (naming_of s) (types_of s) (map (spelling (naming_of s)) (names_of s)) (nullable_of s) in
    let of : List (List ℕ) → Type 0 = λ stated.
    (lines : List ℕ) × MeansText (heading ++ stated) (record { names = names_of s; columns = types_of s; deps = theory_of s; lines = lines; naming = naming_of s; nullable = nullable_of s }) in
    subst of (ended_lines-none (map (spelling (naming_of s)) (names_of s)) (theory_of s))
    (ended-schema-law s (no_ends (theory_of s)) within_limit each (AreEnds-none (theory_of s)))
