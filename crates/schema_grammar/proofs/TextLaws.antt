-- A schema text is read where nothing is wrong, or refused by its first diagnostic.
use Rattle.std.proofs.Common.{◌≡◌, ◌+◌, ◌⊎◌, inl, inr, ℕ, false, List, [], ◌∷◌, length, Option, Some, None, Ok, Err, Result, refl, subst, arith}
use Rattle.schema_model.specs.declared.naming.Naming.TheVariants.{Bare}
use Rattle.lexer.specs.Modes as mode
use Rattle.lexer.specs.declared.token.LexError.{LexError}
use Rattle.lexer.specs.Lines.{line_texts, without_mark}
use Rattle.lexer.specs.Tokens.{Mark, lex}
use Rattle.schema_grammar.specs.declared.refusal.SchemaRefusal.{SchemaRefusal}
use Rattle.schema_grammar.specs.declared.refusal.SchemaRefusalKind.TheVariants as kind
use Rattle.schema_grammar.specs.declared.refusal.What.TheVariants as what
use Rattle.schema_grammar.specs.declared.format.Format.{Format}
use Rattle.schema_grammar.specs.declared.format.Format.TheVariants as format
use Rattle.schema_grammar.specs.Diagnostics.{span_at}
use Rattle.schema_grammar.specs.Declarations.{Declarations, no_declaration}
use Rattle.schema_grammar.specs.LineTokens.{naming_in}
use Rattle.schema_grammar.specs.Refusals.{refusal, refused_by}
use Rattle.schema_grammar.specs.Rests.{◌>>=◌, take, number_in, refusal_at_end, refusal_at_end_from, unless}
use Rattle.schema_grammar.specs.Schemas.{FitsAll, VersionDiagnostic, VersionWants, FitsVersion, HasVersionLine, FitsText, FitsSchema, RefusesSchema, IsVersionLine, has_version_line}
use Rattle.schema_grammar.specs.Texts.{read_all, read_version, read_opening, read_text, format_of_version, known_version, version_number}
use Rattle.schema_grammar.proofs.DiagnosticLaws.{flaw_carries, flaw_least, first_at, flaw_kind}
use Rattle.schema_grammar.proofs.KindLemmas.{same_number}
use Rattle.schema_grammar.proofs.LinesLaws.{lines-law}
use Rattle.schema_grammar.proofs.SchemaLaws.{version_there, version_line_or_none, plain_opening, versioned_opening}

-- a version line is read where nothing is wrong, or refused by its first diagnostic
pub version-law : (line next_column : ℕ) (ms : List Mark) (stop : Option LexError)
    → FitsVersion line next_column ms stop (read_version (record { line = line; next_column = next_column; marks = ms; stop = stop }))
unfolding read_version take refusal_at_end
version-law line next_column [] None =
    first_at (VersionDiagnostic [] None) VersionWants (span_at line next_column [] None)
    (refusal line next_column 0 (kind.Expected what.Number)) 0 (λ p n less. absurd (omega arith))
    (inl (inl (inr (refl, refl, refl, refl)))) (inl (refl, refl)) refl (λ n diagnostic. grind (arith, same_number))
version-law line next_column [] (Some s) =
    first_at (VersionDiagnostic [] (Some s)) VersionWants (span_at line next_column [] (Some s))
    (refused_by line s) 0
    (λ p n less. absurd (omega arith)) (inr (s, refl, refl, flaw_kind s.flaw))
    (flaw_carries (VersionWants 0) s.flaw) refl
    (λ n diagnostic. grind (arith, flaw_least s))
version-law line next_column (m ∷ ms) stop = by_cases (number_in m.kind) refl
  where
    ends : (i : ℕ) (f : Format) → number_in m.kind ≡ Some i → format_of_version i ≡ Some f
        → (others : List Mark) (o : Option LexError)
        → FitsVersion line next_column (m ∷ others) o (unless (refusal_at_end_from line others o) f)
    ends i f not_empty known [] None = λ p n diagnostic. grind arith
    ends i f not_empty known [] (Some s) =
        first_at (VersionDiagnostic (m ∷ []) (Some s)) VersionWants
        (span_at line next_column (m ∷ []) (Some s)) (refused_by line s) 1
        (λ p n less diagnostic. grind arith) (inr (s, refl, refl, flaw_kind s.flaw))
        (flaw_carries (VersionWants 1) s.flaw) refl
        (λ n diagnostic. grind (arith, flaw_least s))
    ends i f not_empty known (k ∷ ks) o =
        first_at (VersionDiagnostic (m ∷ k ∷ ks) o) VersionWants (span_at line next_column (m ∷ k ∷ ks) o)
        (refusal line k.column k.length (kind.Expected what.LineEnd)) 1
        (λ p n less diagnostic. grind arith) (inl (inr (inr (k, refl, refl, refl))))
        (inr (omega arith, refl)) refl (λ n diagnostic. grind (arith, same_number))

    number : (i : ℕ) (o : Option Format) → number_in m.kind ≡ Some i → format_of_version i ≡ o
        → FitsVersion line next_column (m ∷ ms) stop
        (known_version m (record { line = line; next_column = m.column + m.length; marks = ms; stop = stop }) o)
    number i (Some f) not_empty known = ends i f not_empty known ms stop
    number i None not_empty unknown =
        first_at (VersionDiagnostic (m ∷ ms) stop) VersionWants (span_at line next_column (m ∷ ms) stop)
        (refusal line m.column m.length kind.UnknownVersion) 0 (λ p n less. absurd (omega arith))
        (inl (inr (inl (m, i, refl, not_empty, unknown, refl, refl)))) tt refl (λ n diagnostic. grind (arith, same_number))

    by_cases : (o : Option ℕ) → number_in m.kind ≡ o → FitsVersion line next_column (m ∷ ms) stop (version_number m (record { line = line; next_column = m.column + m.length; marks = ms; stop = stop }) o)
    by_cases None none =
        first_at (VersionDiagnostic (m ∷ ms) stop) VersionWants (span_at line next_column (m ∷ ms) stop)
        (refusal line m.column m.length (kind.Expected what.Number)) 0
        (λ p n less. absurd (omega arith))
        (inl (inl (inl (m, refl, none, refl, refl)))) (inl (refl, refl)) refl (λ n diagnostic. grind (arith, same_number))
    by_cases (Some i) not_empty = number i (format_of_version i) not_empty refl

-- a schema text is refused by its first diagnostic, or as declaring nothing, and read where there is
-- neither
pub text-law : (text : List ℕ) → FitsSchema text (read_text text)
unfolding read_text
text-law text = fits (version_line_or_none lines)
  where
    lines : List (List ℕ)
    lines = line_texts (without_mark text)

    plain : has_version_line lines ≡ false → (r : Result Declarations SchemaRefusal)
        → FitsAll format.Plain 1 lines r → FitsText 1 lines r
    plain none (Ok whole) later = inl (none, later)
    plain none (Err e) later = inl (none, later)

    versioned : (has : HasVersionLine lines) (f : Format) → IsVersionLine has.version f
        → (r : Result Declarations SchemaRefusal)
        → FitsAll f (length has.before + 1 + 1) has.later r → FitsText 1 lines r
    versioned has f is (Ok whole) later = inr (has, f, is, later)
    versioned has f is (Err e) later = inr (has, inr (f, is, later))

    version : (has : HasVersionLine lines) (o : Result Format SchemaRefusal)
        → read_version (record { line = length has.before + 1; next_column = has.head.column + has.head.length; marks = has.others; stop = (lex (mode.numbered Bare) has.version).stop }) ≡ o
        → FitsVersion (length has.before + 1) (has.head.column + has.head.length) has.others
        (lex (mode.numbered Bare) has.version).stop o
        → FitsText 1 lines (o >>= (λ f. read_all f (length has.before + 1 + 1) has.later))
    version has (Ok f) read fine =
        versioned has f (version_there lines has (length has.before + 1) f read) _
        (lines-law f (length has.before + 1 + 1) (no_declaration (naming_in f)) has.later)
    version has (Err e) read first = inr (has, inl first)

    fits : (has_version_line lines ≡ false) ⊎ HasVersionLine lines → FitsText 1 lines (read_opening 1 lines)
    fits (inl none) =
        rw (plain_opening 1 lines none) (plain none _ (lines-law format.Plain 1 (no_declaration Bare) lines))
    fits (inr has) =
        rw (versioned_opening 1 lines has)
        (version has _ refl (version-law _ _ has.others (lex (mode.numbered Bare) has.version).stop))

pub schema_refused : (text : List ℕ) (e : SchemaRefusal) → read_text text ≡ Err e → RefusesSchema text e
schema_refused text e h = subst (FitsSchema text) h (text-law text)
