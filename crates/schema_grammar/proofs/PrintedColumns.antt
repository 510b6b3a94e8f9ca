-- What is printed before the names of columns of a type declares the type.
use Rattle.std.proofs.Common.{◌≡◌, ◌<◌, ◌+◌, ◌⊎◌, ◌&&◌, ◌==◌, inl, inr, ℕ, zero, suc, true, false, IsTrue, List, [], ◌∷◌, ◌++◌, length, nat_eq, refl, sym, ◌∙◌, ap, subst, arith}
use Rattle.std.specs.Prelude.{codes, map, nat_le}
use Rattle.std.specs.List.{All, starts_with}
use Rattle.std.proofs.lemmas.Bool.Decides.{nat_tests}
use Rattle.std.proofs.lemmas.Fmt.{decimal_digit}
use Rattle.schema_model.specs.declared.column_type.ColumnType.{ColumnType}
use Rattle.schema_model.specs.declared.column_type.ColumnType.TheVariants as types
use Rattle.schema_model.specs.declared.column_type.TheConstants.{MOST_SCALE}
use Rattle.schema_model.specs.declared.naming.Naming.TheVariants.{Any}
use Rattle.schema_model.specs.Columns.{is_column_type, is_plain_type}
use Rattle.schema_model.specs.Names.{is_bare_name, is_type_text, quoted}
use Rattle.schema_model.proofs.NameLemmas.{type_text_is_name}
use Rattle.lexer.specs.declared.mode.Mode.{Mode}
use Rattle.lexer.specs.declared.piece.Piece.TheVariants as piece
use Rattle.lexer.specs.declared.token.TokenKind.TheVariants as token
use Rattle.lexer.specs.Bytes.{is_number}
use Rattle.lexer.specs.Modes as mode
use Rattle.lexer.specs.Pieces.{front_piece, run_piece}
use Rattle.lexer.specs.Tokens.{Mark, Lexed, tokens_after, lex, led_by_mark}
use Rattle.lexer.proofs.QuotedNames.{quoted_lexed}
use Rattle.lexer.proofs.Quoting.{name_test}
use Rattle.lexer.proofs.Steps.{at_token}
use Rattle.schema_grammar.specs.declared.format.Format.{Format}
use Rattle.schema_grammar.specs.declared.format.Format.TheVariants as format
use Rattle.schema_grammar.specs.LineTokens.{naming_in, mode_of_kind, mode_by_head, line_mode, lex_line}
use Rattle.schema_grammar.specs.Meanings.{HasTokens}
use Rattle.schema_grammar.specs.Printed.{IsReadBack}
use Rattle.schema_grammar.specs.Schemas.{ByWord, ByScale, ByText}
use Rattle.schema_grammar.specs.Words.{columns_of, line_kind}
use Rattle.schema_printer.specs.Printing.{words_text, type_word}
use Rattle.schema_printer.specs.Spelling.{spelling}
use Rattle.schema_grammar.proofs.PrintedDependencies.{plain_line}
use Rattle.schema_grammar.proofs.PrintedLexing.{Apart, name_lexed, blank_lexed}
use Rattle.schema_grammar.proofs.PrintedTexts.{Bytes, bytes_both}
use Rattle.schema_grammar.proofs.SpelledWords.{name_marks, last_names, named_line, quoted_bytes}

-- a printed line of names of columns of a type, by what stands before the names
pub record PrintsRun (f : Format) (key : List ℕ) (column : ColumnType) (names : List (List ℕ)) : Type 0 where
  pub at : ℕ
  pub marks : List Mark
  pub tokens : HasTokens (lex_line f (key ++ words_text (map (spelling (naming_in f)) names))) marks
  pub declares : (ByWord f marks column (name_marks (naming_in f) at names)
      ⊎ ByScale f marks column (name_marks (naming_in f) at names))
      ⊎ ByText f marks column (name_marks (naming_in f) at names)

-- ---- by a word
pub word_run : (f : Format) (key : List ℕ) (column : ColumnType) (names : List (List ℕ)) → is_bare_name key ≡ true
    → line_kind f token.Identifier key ≡ columns_of column → All (IsReadBack f (naming_in f)) names
    → PrintsRun f key column names
word_run f key column names bare is all =
    let naming = naming_in f in
    let head : Mark = record { kind = token.Identifier; column = 1; length = length key; word = key } in
    let words = name_marks naming (1 + length key) names in
    let line = key ++ words_text (map (spelling naming) names) in
    record {
      at = 1 + length key;
      marks = head ∷ words;
      tokens = plain_line f line head words (named_line f naming (mode.plain naming) key names bare refl all)
          (ap (mode_of_kind f) is);
      declares = inl (inl (record { head = head; cut = refl; declaring = is }));
    }

-- ---- by `decimal` and a scale
-- one digit is a number, where numbers are taken
front_digit : (scale : ℕ) (rest : List ℕ) → scale < 10 → Apart rest
    → front_piece (mode.scaled Any) ((48 + scale) ∷ rest) ≡ piece.Token (token.Number scale) 1
unfolding front_piece run_piece is_number
front_digit zero [] less apart = refl
front_digit (suc zero) [] less apart = refl
front_digit (suc (suc zero)) [] less apart = refl
front_digit (suc (suc (suc zero))) [] less apart = refl
front_digit (suc (suc (suc (suc zero)))) [] less apart = refl
front_digit (suc (suc (suc (suc (suc zero))))) [] less apart = refl
front_digit (suc (suc (suc (suc (suc (suc zero)))))) [] less apart = refl
front_digit (suc (suc (suc (suc (suc (suc (suc zero))))))) [] less apart = refl
front_digit (suc (suc (suc (suc (suc (suc (suc (suc zero)))))))) [] less apart = refl
front_digit (suc (suc (suc (suc (suc (suc (suc (suc (suc zero))))))))) [] less apart = refl
front_digit zero (b ∷ bs) less apart = rw apart refl
front_digit (suc zero) (b ∷ bs) less apart = rw apart refl
front_digit (suc (suc zero)) (b ∷ bs) less apart = rw apart refl
front_digit (suc (suc (suc zero))) (b ∷ bs) less apart = rw apart refl
front_digit (suc (suc (suc (suc zero)))) (b ∷ bs) less apart = rw apart refl
front_digit (suc (suc (suc (suc (suc zero))))) (b ∷ bs) less apart = rw apart refl
front_digit (suc (suc (suc (suc (suc (suc zero)))))) (b ∷ bs) less apart = rw apart refl
front_digit (suc (suc (suc (suc (suc (suc (suc zero))))))) (b ∷ bs) less apart = rw apart refl
front_digit (suc (suc (suc (suc (suc (suc (suc (suc zero)))))))) (b ∷ bs) less apart = rw apart refl
front_digit (suc (suc (suc (suc (suc (suc (suc (suc (suc zero))))))))) (b ∷ bs) less apart = rw apart refl
front_digit (suc (suc (suc (suc (suc (suc (suc (suc (suc (suc scale)))))))))) rest less apart = absurd (omega arith)

words_apart : (words : List (List ℕ)) → Apart (words_text words)
words_apart [] = tt
words_apart (word ∷ words) = refl

scale_run : (scale : ℕ) (names : List (List ℕ)) → scale < 10 → All (IsReadBack format.Full Any) names
    → PrintsRun format.Full (codes "decimal " ++ (48 + scale) ∷ []) (types.Decimal scale) names
unfolding line_mode line_kind
scale_run scale names less all =
    let words = words_text (map (spelling Any) names) in
    let line = (codes "decimal " ++ (48 + scale) ∷ []) ++ words in
    let head : Mark = record { kind = token.Identifier; column = 1; length = 7; word = codes "decimal" } in
    let number : Mark = record { kind = token.Number scale; column = 9; length = 1; word = (48 + scale) ∷ [] } in
    let first : (m : Mode) → lex m line ≡ led_by_mark head (tokens_after m 0 8 (32 ∷ (48 + scale) ∷ words)) =
    λ m. name_lexed m 1 (codes "decimal") (32 ∷ (48 + scale) ∷ words) refl refl in
    let taken : line_mode format.Full line ≡ mode.scaled Any =
    ap (λ (l : Lexed). mode_by_head format.Full l.marks) (first (mode.plain Any)) in
    let scaled : HasTokens (lex (mode.scaled Any) line) (head ∷ number ∷ name_marks Any 10 names) =
    first (mode.scaled Any)
    ∙ ap (led_by_mark head) (blank_lexed (mode.scaled Any) 8 ((48 + scale) ∷ words)
    ∙ at_token (mode.scaled Any) 9 ((48 + scale) ∷ words) (token.Number scale) 1 (omega arith)
    (sym (front_digit scale words less (words_apart (map (spelling Any) names))))
    ∙ ap (led_by_mark number) (last_names format.Full Any (mode.scaled Any) 10 names refl all)) in
    record {
      at = 10;
      marks = head ∷ number ∷ name_marks Any 10 names;
      tokens = ap (λ (m : Mode). lex m line) taken ∙ scaled;
      declares = inl (inr (record {
        head = head;
        number = number;
        scale = scale;
        cut = refl;
        declaring = refl;
        is_number = refl;
        one_digit = small;
        decimal = refl;
      }));
    }
  where
    small : (nat_le scale MOST_SCALE && (1 == 1)) ≡ true
    small = grind (arith, nat_tests)

-- ---- by `other` and a type
text_run : (text : List ℕ) (names : List (List ℕ)) → is_type_text text ≡ true → All (IsReadBack format.Full Any) names
    → PrintsRun format.Full (codes "other " ++ quoted text) (types.Other text) names
unfolding line_kind
text_run text names is all =
    let words = words_text (map (spelling Any) names) in
    let m = mode.plain Any in
    let line = (codes "other " ++ quoted text) ++ words in
    let head : Mark = record { kind = token.Identifier; column = 1; length = 5; word = codes "other" } in
    let mark : Mark = record { kind = token.Quoted; column = 7; length = length (quoted text); word = text } in
    let at = 7 + length (quoted text) in
    let tokens : HasTokens (lex m line) (head ∷ mark ∷ name_marks Any at names) =
    name_lexed m 1 (codes "other") (32 ∷ (quoted text ++ words)) refl refl
    ∙ ap (led_by_mark head) (blank_lexed m 6 (quoted text ++ words)
    ∙ quoted_lexed m 7 text words refl ((name_test text).1 (type_text_is_name text is)) (unquoted names)
    ∙ ap (led_by_mark mark) (last_names format.Full Any m at names refl all)) in
    record {
      at = at;
      marks = head ∷ mark ∷ name_marks Any at names;
      tokens = plain_line format.Full line head (mark ∷ name_marks Any at names) tokens refl;
      declares = inr (record { head = head; text = mark; cut = refl; declaring = refl; is_quoted = refl; is_type = is; other = refl });
    }
  where
    unquoted : (names : List (List ℕ)) → starts_with nat_eq (words_text (map (spelling Any) names)) (34 ∷ []) ≡ false
    unquoted [] = refl
    unquoted (name ∷ names) = refl

-- ---- by what is printed of a type
-- the types of which lines are printed by their words
abbrev pub IsPrinted : Format → ColumnType → Type 0
IsPrinted format.Plain c = ⊥
IsPrinted format.Typed c = IsTrue (is_plain_type c)
IsPrinted format.Full c = IsTrue (is_column_type c)

digit_small : (scale : ℕ) → IsTrue (is_column_type (types.Decimal scale)) → scale < 10
digit_small scale is = grind (arith, nat_tests)

pub column_run : (f : Format) (c : ColumnType) (names : List (List ℕ)) → IsPrinted f c
    → All (IsReadBack f (naming_in f)) names → PrintsRun f (type_word c) c names
unfolding line_kind
column_run format.Plain c names is all = absurd is
column_run format.Typed types.Text names is all = word_run format.Typed (codes "text") types.Text names refl refl all
column_run format.Typed types.Integer names is all = word_run format.Typed (codes "integer") types.Integer names refl refl all
column_run format.Typed c names is all = cc
column_run format.Full types.Text names is all = word_run format.Full (codes "text") types.Text names refl refl all
column_run format.Full types.Integer names is all = word_run format.Full (codes "integer") types.Integer names refl refl all
column_run format.Full types.Date names is all = word_run format.Full (codes "date") types.Date names refl refl all
column_run format.Full types.Timestamp names is all = word_run format.Full (codes "timestamp") types.Timestamp names refl refl all
column_run format.Full types.Uuid names is all = word_run format.Full (codes "uuid") types.Uuid names refl refl all
column_run format.Full (types.Decimal scale) names is all =
    subst (λ (digits : List ℕ). PrintsRun format.Full (codes "decimal " ++ digits) (types.Decimal scale) names)
    (sym (decimal_digit scale (digit_small scale is))) (scale_run scale names (digit_small scale is) all)
column_run format.Full (types.Other text) names is all = text_run text names is all

pub column_bytes : (f : Format) (c : ColumnType) → IsPrinted f c → Bytes (type_word c)
column_bytes format.Plain c is = absurd is
column_bytes format.Typed types.Text is = refl
column_bytes format.Typed types.Integer is = refl
column_bytes format.Typed c is = cc
column_bytes format.Full types.Text is = refl
column_bytes format.Full types.Integer is = refl
column_bytes format.Full types.Date is = refl
column_bytes format.Full types.Timestamp is = refl
column_bytes format.Full types.Uuid is = refl
column_bytes format.Full (types.Decimal scale) is =
    let less = digit_small scale is in
    let digit : Bytes ((48 + scale) ∷ []) = grind (arith, nat_tests) in
    subst (λ (digits : List ℕ). Bytes (codes "decimal " ++ digits)) (sym (decimal_digit scale less))
    (bytes_both (codes "decimal ") ((48 + scale) ∷ []) refl digit)
column_bytes format.Full (types.Other text) is = bytes_both (codes "other ") (quoted text) refl (quoted_bytes text (type_text_is_name text is))
