-- A schema text is read exactly where it means the schema.
use Rattle.std.proofs.Common.{◌≡◌, ◌<◌, ◌+◌, ◌⊎◌, inl, inr, ℕ, suc, false, List, [], ◌∷◌, ◌++◌, length, Option, Some, None, Ok, refl, sym, ◌∙◌, ap, arith}
use Rattle.std.specs.List.{All}
use Rattle.std.specs.Prelude.{◌↔◌}
use Rattle.std.proofs.lemmas.Bool.{cases_Bool}
use Rattle.std.proofs.lemmas.List.Elements.{All-cons, All-nil, All-head, All-tail}
use Rattle.schema_model.specs.declared.naming.Naming.TheVariants.{Bare}
use Rattle.lexer.specs.Modes as mode
use Rattle.lexer.specs.declared.token.LexError.{LexError}
use Rattle.lexer.specs.declared.token.TokenKind.{TokenKind}
use Rattle.lexer.specs.declared.token.TokenKind.TheVariants as token
use Rattle.lexer.specs.Lines.{line_texts, without_mark}
use Rattle.lexer.specs.Tokens.{Mark, lex}
use Rattle.schema_grammar.specs.declared.format.Format.{Format}
use Rattle.schema_grammar.specs.declared.format.Format.TheVariants as format
use Rattle.schema_grammar.specs.Declarations.{Declarations, no_declaration}
use Rattle.schema_grammar.specs.LineTokens.{naming_in}
use Rattle.schema_grammar.specs.Meanings.{HasTokens}
use Rattle.schema_grammar.specs.Rests.{number_in, take, refusal_at_end, refusal_at_end_from, unless}
use Rattle.schema_grammar.specs.Schemas.{MeansAll, has_version_line, begins_version, HasVersionLine, IsPlainText, IsVersionLine, IsVersionedText, MeansSchema}
use Rattle.schema_grammar.specs.Texts.{read_lines, read_all, read_version, read_versioned, read_opening, read_text, is_version, opening_from, format_of_version, known_version, version_number}
use Rattle.schema_grammar.proofs.BlankLemmas.{lexed_plain, blank_line}
use Rattle.schema_grammar.proofs.DeclaringLaws.{has_tokens, line_back, lines_there, lines_back}
use Rattle.schema_grammar.proofs.RefusalLemmas.{and_then-ok}

abbrev pub IsBlankLine : List ℕ → Type 0
IsBlankLine line = HasTokens (lex (mode.numbered Bare) line) []

-- a version line is read where it is the word `version` and the number of a version that is read
pub version_there : (lines : List (List ℕ)) (text : HasVersionLine lines) (line : ℕ) (f : Format)
    → read_version (record { line = line; next_column = text.head.column + text.head.length; marks = text.others; stop = (lex (mode.numbered Bare) text.version).stop }) ≡ Ok f
    → IsVersionLine text.version f
unfolding read_version take refusal_at_end
version_there lines text line f e = by_cases text.others (lex (mode.numbered Bare) text.version).stop refl refl e
  where
    ends : (n : ℕ) (g : Format) (m : Mark) (ms : List Mark) (stop : Option LexError) → text.others ≡ m ∷ ms
        → (lex (mode.numbered Bare) text.version).stop ≡ stop
        → m.kind ≡ token.Number n → format_of_version n ≡ Some g
        → unless (refusal_at_end_from line ms stop) g ≡ Ok f → IsVersionLine text.version f
    ends n g m [] None others stop is read e = record {
      head = text.head;
      number = m;
      version = n;
      tokens = has_tokens (lex (mode.numbered Bare) text.version) _ (text.starts ∙ ap (λ t. text.head ∷ t) others) stop;
      is_word = text.is_word;
      is_number = is;
      is_read = read ∙ ap Some (let same : g ≡ f = cc in same);
    }
    ends n g m [] (Some s) others stop is read e = cc
    ends n g m (k ∷ ks) stop others same is read e = cc

    known : (n : ℕ) (o : Option Format) (m : Mark) (ms : List Mark) (stop : Option LexError) → text.others ≡ m ∷ ms
        → (lex (mode.numbered Bare) text.version).stop ≡ stop
        → m.kind ≡ token.Number n → format_of_version n ≡ o
        → known_version m (record { line = line; next_column = m.column + m.length; marks = ms; stop = stop }) o ≡ Ok f
        → IsVersionLine text.version f
    known n None m ms stop others same is read e = cc
    known n (Some g) m ms stop others same is read e = ends n g m ms stop others same is read e

    numbered : (k : TokenKind) (m : Mark) (ms : List Mark) (stop : Option LexError) → m.kind ≡ k
        → text.others ≡ m ∷ ms → (lex (mode.numbered Bare) text.version).stop ≡ stop
        → version_number m (record { line = line; next_column = m.column + m.length; marks = ms; stop = stop }) (number_in k) ≡ Ok f
        → IsVersionLine text.version f
    numbered (token.Number n) m ms stop is others same e =
        known n (format_of_version n) m ms stop others same is refl e
    numbered k m ms stop is others same e = cc

    by_cases : (ms : List Mark) (stop : Option LexError) → text.others ≡ ms
        → (lex (mode.numbered Bare) text.version).stop ≡ stop
        → read_version (record { line = line; next_column = text.head.column + text.head.length; marks = ms; stop = stop }) ≡ Ok f
        → IsVersionLine text.version f
    by_cases [] None others stop e = cc
    by_cases [] (Some s) others stop e = cc
    by_cases (m ∷ ms) stop others same e = numbered m.kind m ms stop refl others same e

-- a text has a version line, or none
pub version_line_or_none : (lines : List (List ℕ)) → (has_version_line lines ≡ false) ⊎ HasVersionLine lines
unfolding has_version_line
version_line_or_none [] = inl refl
version_line_or_none (line ∷ lines) =
    by_cases (lex (mode.numbered Bare) line).marks (lex (mode.numbered Bare) line).stop refl refl (version_line_or_none lines)
  where
    by_cases : (ms : List Mark) (stop : Option LexError) → (lex (mode.numbered Bare) line).marks ≡ ms
        → (lex (mode.numbered Bare) line).stop ≡ stop
        → (has_version_line lines ≡ false) ⊎ HasVersionLine lines
        → (begins_version ms stop (has_version_line lines) ≡ false) ⊎ HasVersionLine (line ∷ lines)
    by_cases [] None marks stop (inl none) = inl none
    by_cases [] None marks stop (inr text) = inr (record {
      before = line ∷ text.before;
      version = text.version;
      later = text.later;
      cut = ap (λ t. line ∷ t) text.cut;
      blank = All-cons IsBlankLine line text.before
          (has_tokens (lex (mode.numbered Bare) line) [] marks stop) text.blank;
      head = text.head;
      others = text.others;
      starts = text.starts;
      is_word = text.is_word;
    })
    by_cases [] (Some s) marks stop later = inl refl
    by_cases (m ∷ ms) stop marks same later = elim (cases_Bool (is_version m.kind m.word)) [
      | inl is ↦ inr (record {
        before = [];
        version = line;
        later = lines;
        cut = refl;
        blank = All-nil IsBlankLine;
        head = m;
        others = ms;
        starts = marks;
        is_word = is;
      })
      | inr other ↦ inl other
    ]

-- without a version line all lines are read alike
pub plain_opening : (number : ℕ) (lines : List (List ℕ)) → has_version_line lines ≡ false
    → read_opening number lines ≡ read_all format.Plain number lines
unfolding read_opening has_version_line read_lines
plain_opening number [] none = refl
plain_opening number (line ∷ lines) none =
    by_cases (lex (mode.numbered Bare) line).marks (lex (mode.numbered Bare) line).stop refl refl none
    (plain_opening (number + 1) lines)
  where
    by_cases : (ms : List Mark) (stop : Option LexError) → (lex (mode.numbered Bare) line).marks ≡ ms
        → (lex (mode.numbered Bare) line).stop ≡ stop
        → begins_version ms stop (has_version_line lines) ≡ false
        → (has_version_line lines ≡ false
        → read_opening (number + 1) lines ≡ read_all format.Plain (number + 1) lines)
        → opening_from number line lines (read_opening (number + 1) lines) ms stop
        ≡ read_all format.Plain number (line ∷ lines)
    by_cases [] None marks stop none later =
        let blank = blank_line format.Plain line
        (lexed_plain 0 1 line (has_tokens (lex (mode.numbered Bare) line) [] marks stop)) in
        rw (line_back format.Plain number (no_declaration Bare) line (no_declaration Bare)
        (inl (inl (record { tokens = blank; same = refl })))) (later none)
    by_cases [] (Some s) marks stop none later = refl
    by_cases (m ∷ ms) stop marks same none later = rw none refl

-- lines without a token are passed over
blank_skipped : (number : ℕ) (before rest : List (List ℕ)) → All IsBlankLine before
    → read_opening number (before ++ rest) ≡ read_opening (length before + number) rest
unfolding read_opening
blank_skipped number [] rest blank =
    let same : number ≡ 0 + number = omega arith in ap (λ n. read_opening n rest) same
blank_skipped number (line ∷ before) rest blank =
    let same : length before + (number + 1) ≡ suc (length before) + number = omega arith in
    rw (All-head IsBlankLine line before blank)
    (blank_skipped (number + 1) before rest (All-tail IsBlankLine line before blank) ∙ ap
    (λ n. read_opening n rest) same)

-- a text with a version line is read from there on
pub versioned_opening : (number : ℕ) (lines : List (List ℕ)) (text : HasVersionLine lines)
    → read_opening number lines
    ≡ read_versioned text.later
    (record { line = length text.before + number; next_column = text.head.column + text.head.length; marks = text.others; stop = (lex (mode.numbered Bare) text.version).stop })
unfolding read_opening
versioned_opening number lines text =
    ap (read_opening number) text.cut ∙ blank_skipped number text.before
    (text.version ∷ text.later) text.blank
    ∙ rw (text.starts, text.is_word) refl

pub version_opening : (number : ℕ) (lines before : List (List ℕ)) (version : List ℕ) (later : List (List ℕ))
    (f : Format)
    → lines ≡ before ++ version ∷ later
    → All IsBlankLine before → IsVersionLine version f
    → read_opening number lines ≡ read_all f (length before + number + 1) later
unfolding read_opening read_version take refusal_at_end
version_opening number lines before version later f cut blank is =
    ap (read_opening number) cut ∙ blank_skipped number before (version ∷ later) blank ∙ rw
    (is.tokens, is.is_word, is.is_number) (rw (is.is_read) refl)

-- what the lines from one on mean
abbrev pub MeansFrom : ℕ → List (List ℕ) → Declarations → Type 0
MeansFrom number lines whole =
    ((has_version_line lines ≡ false) × MeansAll format.Plain number lines whole)
    ⊎ ((text : HasVersionLine lines) × (f : Format) × IsVersionLine text.version f
    × MeansAll f (length text.before + number + 1) text.later whole)

pub opening_means : (number : ℕ) (lines : List (List ℕ)) (whole : Declarations)
    → read_opening number lines ≡ Ok whole
    → MeansFrom number lines whole × (0 < length whole.names)
opening_means number lines whole e = by_cases (version_line_or_none lines)
  where
    by_cases : (has_version_line lines ≡ false) ⊎ HasVersionLine lines
        → MeansFrom number lines whole × (0 < length whole.names)
    by_cases (inl none) =
        let both = lines_there format.Plain number (no_declaration Bare) whole lines
        (sym (plain_opening number lines none) ∙ e) in (inl (none, both.0), both.1)
    by_cases (inr text) =
        let two = and_then-ok _ (λ f. read_all f (length text.before + number + 1) text.later) whole
        (sym (versioned_opening number lines text) ∙ e) in
        let is = version_there lines text (length text.before + number) two.x two.first in
        let both = lines_there two.x (length text.before + number + 1) (no_declaration (naming_in two.x)) whole text.later
        two.second in
        (inr (text, two.x, is, both.0), both.1)

pub schema-law : (text : List ℕ) (whole : Declarations) → (read_text text ≡ Ok whole) ↔ MeansSchema text whole
unfolding read_text
schema-law text whole = (λ e. there (opening_means 1 lines whole e), λ means. back means.not_empty means.lines)
  where
    lines : List (List ℕ)
    lines = line_texts (without_mark text)

    two : (n : ℕ) → n + 1 + 1 ≡ n + 2
    two n = omega arith

    there : MeansFrom 1 lines whole × (0 < length whole.names) → MeansSchema text whole
    there (inl plain, not_empty) =
        record { not_empty = not_empty; lines = inl (record { no_version = plain.0; declared = plain.1 }) }
    there (inr (has, f, is, declared), not_empty) = record {
      not_empty = not_empty;
      lines = inr (record {
        format = f;
        before = has.before;
        version = has.version;
        later = has.later;
        cut = has.cut;
        blank = has.blank;
        versioned = is;
        declared = rw (two (length has.before)) at declared;
      });
    }

    back : 0 < length whole.names → IsPlainText lines whole ⊎ IsVersionedText lines whole
        → read_opening 1 lines ≡ Ok whole
    back not_empty (inl plain) =
        plain_opening 1 lines plain.no_version
        ∙ lines_back format.Plain 1 (no_declaration Bare) whole lines plain.declared not_empty
    back not_empty (inr text) =
        version_opening 1 lines text.before text.version text.later text.format text.cut text.blank text.versioned
        ∙ lines_back text.format (length text.before + 1 + 1) (no_declaration (naming_in text.format)) whole text.later
        (rw (← two (length text.before)) at text.declared) not_empty
