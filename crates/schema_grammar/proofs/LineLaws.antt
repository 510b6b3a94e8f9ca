-- A line of a schema text is read where nothing is wrong, or refused by its first diagnostic.
use Rattle.std.proofs.Common.{◌≡◌, ◌<◌, ◌≤◌, ◌+◌, inl, inr, ℕ, zero, suc, Bool, true, false, cond, List, [], ◌∷◌, length, Option, Some, None, Ok, Err, Result, refl, sym, ◌∙◌, ap, arith, ⊎_elim}
use Rattle.std.specs.Prelude.{nat_le}
use Rattle.std.proofs.lemmas.Bool.{leb-true, leb-false}
use Rattle.schema_model.specs.declared.column_type.ColumnType.{ColumnType}
use Rattle.schema_grammar.specs.declared.format.TheConstants.{MOST_DEPENDENCY_LINES}
use Rattle.schema_model.specs.declared.column_type.ColumnType.TheVariants as types
use Rattle.dep_model.specs.Dependencies.{Dependency}
use Rattle.schema_model.specs.Names.{is_type_text}
use Rattle.lexer.specs.declared.token.LexError.{LexError}
use Rattle.lexer.specs.declared.token.TokenKind.{TokenKind}
use Rattle.lexer.specs.declared.token.TokenKind.TheVariants as token
use Rattle.lexer.specs.Tokens.{Mark}
use Rattle.schema_grammar.specs.declared.line_kind.LineKind.{LineKind}
use Rattle.schema_grammar.specs.declared.line_kind.LineKind.TheVariants as begins
use Rattle.schema_grammar.specs.declared.line_kind.Purpose.TheVariants as purpose
use Rattle.schema_grammar.specs.declared.refusal.SchemaRefusal.{SchemaRefusal}
use Rattle.schema_grammar.specs.declared.refusal.SchemaRefusalKind.{SchemaRefusalKind}
use Rattle.schema_grammar.specs.declared.refusal.SchemaRefusalKind.TheVariants as kind
use Rattle.schema_grammar.specs.declared.refusal.What.{What}
use Rattle.schema_grammar.specs.declared.refusal.What.TheVariants as what
use Rattle.schema_grammar.specs.declared.format.Format.{Format}
use Rattle.schema_grammar.specs.DiagnosticKinds.{DiagnosticKind, number_of, diagnostic_kind, IsNoLater}
use Rattle.schema_grammar.specs.Diagnostics.{IsStuck, NewNameDiagnostic, NameDiagnostic, NamesDiagnostic, TypeDiagnostic, ColumnsDiagnostic, HeadDiagnostic, TextLineDiagnostic, Carries, HeadWants, NamesWant, ColumnsWant, TextLineWants, FitsTextLine, FitsDependency, FitsNames, kinds, span_at}
use Rattle.schema_grammar.specs.Declarations.{Declarations, add_dependency, is_scale, wanted_after, decimal_type, other_type, type_after, list_names, list_columns, begin, dependency_line, line_from, line_of_marks}
use Rattle.schema_grammar.specs.Grammar.{Reached, start}
use Rattle.schema_grammar.specs.Reading.{step, follow}
use Rattle.schema_grammar.specs.Refusals.{at, refused_by, refusal}
use Rattle.schema_grammar.specs.Rests.{◌>>=◌, number_in}
use Rattle.schema_grammar.specs.Words.{line_kind}
use Rattle.schema_grammar.proofs.DiagnosticLaws.{flaw_kind, flaw_carries, flaw_least, first_at, Judged, Carries-map, at_token, token_diagnoses, dependency_judges, line-law}
use Rattle.schema_grammar.proofs.NameLaws.{names-law}
use Rattle.schema_grammar.proofs.ShapeLemmas.{at_start, shape_of, StepFits, step_fits}

-- a diagnostic after the first token, as one of the whole line
abbrev Later : (ℕ → DiagnosticKind → Type 0) → ℕ → DiagnosticKind → Type 0
Later Diagnostic position why = (later : ℕ) × (position ≡ suc later) × Diagnostic later why

abbrev LaterWants : (ℕ → What → Type 0) → ℕ → What → Type 0
LaterWants Wants position w = (later : ℕ) × (position ≡ suc later) × Wants later w

later_judged : (Diagnostic : ℕ → DiagnosticKind → Type 0) (Wants : ℕ → What → Type 0) (line : ℕ) (m : Mark) (ms : List Mark)
    (stop : Option LexError) (res : Result Declarations SchemaRefusal)
    → Judged Diagnostic Wants (span_at line (m.column + m.length) ms stop) res
    → Judged (Later Diagnostic) (LaterWants Wants) (span_at line 1 (m ∷ ms) stop) res
later_judged Diagnostic Wants line m ms stop (Ok whole) none = λ p n (later, is, diagnostic). none later n diagnostic
later_judged Diagnostic Wants line m ms stop (Err e) first = record {
  position = suc first.position;
  stands = (first.position, refl, first.stands);
  carries = Carries-map (Wants first.position) (LaterWants Wants (suc first.position)) (λ w h. (first.position, refl, h)) e.kind first.carries;
  there = first.there;
  least = λ p n (later, is, diagnostic).
      ⊎_elim (λ less. inl (omega (arith, is, less))) (λ same. inr (omega (arith, is, same.0), same.1))
      (first.least later n diagnostic);
}

-- ---- a scale or a type, and names
-- what the token after `decimal` or `other` gives
abbrev TypeFits : LineKind → Mark → Result ColumnType SchemaRefusalKind → Type 0
TypeFits k m (Ok c) = (n : DiagnosticKind) → TypeDiagnostic k m n → ⊥
TypeFits k m (Err why) =
    TypeDiagnostic k m (diagnostic_kind why)
    × ((n : DiagnosticKind) → TypeDiagnostic k m n → number_of (diagnostic_kind why) ≤ number_of n)
    × Carries (λ w. w ≡ wanted_after k) why

decimal_fits : (m : Mark) → TypeFits begins.Decimal m (type_after begins.Decimal m)
unfolding type_after
decimal_fits m = number (number_in m.kind) refl
  where
    scale : (n : ℕ) (b : Bool) → number_in m.kind ≡ Some n → is_scale m n ≡ b
        → TypeFits begins.Decimal m (cond b (Ok (types.Decimal n)) (Err kind.NoScale))
    scale n true is one = λ k diagnostic. ⊎_elim (λ none. let wrong = sym none.1 ∙ is in cc)
        (λ other. let same : other.0 ≡ n = (let e = sym other.2 ∙ is in cc) in
        let wrong = sym one ∙ ap (is_scale m) (sym same) ∙ other.3 in cc) diagnostic
    scale n false is one = (
      inr (n, refl, is, one),
      (λ k diagnostic. ⊎_elim (λ none. let wrong = sym none.1 ∙ is in cc)
          (λ other. omega (arith, ap number_of other.1)) diagnostic),
      refl,
    )

    number : (o : Option ℕ) → number_in m.kind ≡ o → TypeFits begins.Decimal m (decimal_type m o)
    number None is = (
      inl (refl, is),
      (λ k diagnostic. ⊎_elim (λ none. omega (arith, ap number_of none.0))
          (λ other. let wrong = sym is ∙ other.2 in cc) diagnostic),
      refl,
    )
    number (Some n) is = scale n (is_scale m n) is refl

other_fits : (m : Mark) → TypeFits begins.Other m (type_after begins.Other m)
unfolding type_after
other_fits m = by_kind m.kind refl
  where
    text : m.kind ≡ token.Quoted → (b : Bool) → is_type_text m.word ≡ b
        → TypeFits begins.Other m (cond b (Ok (types.Other m.word)) (Err kind.NoType))
    text quoted true is = λ k diagnostic. ⊎_elim (λ none. none.1 quoted)
        (λ other. let wrong = sym is ∙ other.2 in cc) diagnostic
    text quoted false is = (
      inr (refl, quoted, is),
      (λ k diagnostic. ⊎_elim (λ none. absurd (none.1 quoted))
          (λ other. omega (arith, ap number_of other.0)) diagnostic),
      refl,
    )

    unquoted : (m.kind ≡ token.Quoted → ⊥) → TypeFits begins.Other m (Err (kind.Expected what.Type))
    unquoted no_quotes = (
      inl (refl, no_quotes),
      (λ k diagnostic. ⊎_elim (λ none. omega (arith, ap number_of none.0))
          (λ other. absurd (no_quotes other.1)) diagnostic),
      refl,
    )

    by_kind : (k : TokenKind) → m.kind ≡ k → TypeFits begins.Other m (other_type m.word k)
    by_kind token.Quoted is = text is (is_type_text m.word) refl
    by_kind k is = unquoted (λ quoted. let wrong = sym is ∙ quoted in cc)

-- the tokens after `decimal` or `other`
columns-law : (f : Format) (d : Declarations) (k : LineKind) (line next_column : ℕ) (ms : List Mark) (stop : Option LexError)
    → ((m : Mark) → TypeFits k m (type_after k m))
    → Judged (ColumnsDiagnostic f d k ms stop) (ColumnsWant k) (span_at line next_column ms stop)
    (list_columns f k line d next_column ms stop)
unfolding list_columns
columns-law f d k line next_column [] None type_fits =
    first_at (ColumnsDiagnostic f d k [] None) (ColumnsWant k) (span_at line next_column [] None)
    (refusal line next_column 0 (kind.Expected (wanted_after k))) 0 (λ p n less. absurd (omega arith))
    (refl, inl (refl, refl)) refl refl
    (λ n diagnostic. ⊎_elim (λ none. omega (arith, ap number_of none.0)) (λ flaw. let wrong = flaw.1 in cc) diagnostic.1)
columns-law f d k line next_column [] (Some s) type_fits =
    first_at (ColumnsDiagnostic f d k [] (Some s)) (ColumnsWant k) (span_at line next_column [] (Some s))
    (refused_by line s) 0 (λ p n less. absurd (omega arith))
    (refl, inr (s, refl, flaw_kind s.flaw)) (flaw_carries (ColumnsWant k 0) s.flaw) refl
    (λ n diagnostic. ⊎_elim (λ none. let wrong = none.1 in cc) (λ flaw. flaw_least s flaw.0 n flaw.1 flaw.2) diagnostic.1)
columns-law f d k line next_column (m ∷ ms) stop type_fits = by_cases (type_after k m) (type_fits m)
  where
    named : (res : Result Declarations SchemaRefusal) → ((n : DiagnosticKind) → TypeDiagnostic k m n → ⊥)
        → FitsNames (NewNameDiagnostic f d) line (m.column + m.length) ms stop res
        → Judged (ColumnsDiagnostic f d k (m ∷ ms) stop) (ColumnsWant k) (span_at line next_column (m ∷ ms) stop) res
    named (Ok whole) typed none = after_type
      where
        after_type : (p : ℕ) (n : DiagnosticKind) → ColumnsDiagnostic f d k (m ∷ ms) stop p n → ⊥
        after_type zero n diagnostic = typed n diagnostic
        after_type (suc p) n diagnostic = none p n diagnostic
    named (Err e) typed first = record {
      position = suc first.position;
      stands = first.stands;
      carries = first.carries;
      there = first.there;
      least = least;
    }
      where
        least : (p : ℕ) (n : DiagnosticKind) → ColumnsDiagnostic f d k (m ∷ ms) stop p n
            → IsNoLater (suc first.position) (diagnostic_kind e.kind) p n
        least zero n diagnostic = absurd (typed n diagnostic)
        least (suc p) n diagnostic =
            ⊎_elim (λ less. inl (omega (arith, less))) (λ same. inr (omega (arith, same.0), same.1))
            (first.least p n diagnostic)

    by_cases : (o : Result ColumnType SchemaRefusalKind) → TypeFits k m o
        → Judged (ColumnsDiagnostic f d k (m ∷ ms) stop) (ColumnsWant k) (span_at line next_column (m ∷ ms) stop)
        (at line m.column m.length o
        >>= (λ c. list_names f (purpose.Columns c) line d false (m.column + m.length) ms stop))
    by_cases (Ok c) typed =
        named (list_names f (purpose.Columns c) line d false (m.column + m.length) ms stop) typed
        (names-law f (purpose.Columns c) d line (m.column + m.length) ms stop)
    by_cases (Err why) (stands, least, carries) =
        first_at (ColumnsDiagnostic f d k (m ∷ ms) stop) (ColumnsWant k) (span_at line next_column (m ∷ ms) stop)
        (refusal line m.column m.length why) 0 (λ p n less. absurd (omega arith)) stands carries refl least

-- ---- a whole line
abbrev FitsHead : Format → Declarations → ℕ → Mark → List Mark → Option LexError → LineKind
    → Result Declarations SchemaRefusal → Type 0
FitsHead f d line m ms stop k res =
    Judged (HeadDiagnostic f d m ms stop k) (HeadWants m ms k) (span_at line 1 (m ∷ ms) stop) res

-- the diagnostics of a dependency line, where there is room for it
with_room : (f : Format) (d : Declarations) (line : ℕ) (m : Mark) (ms : List Mark) (stop : Option LexError) (res : Result Dependency SchemaRefusal) → length d.deps < MOST_DEPENDENCY_LINES
    → FitsDependency f d.names line (m ∷ ms) stop res → FitsHead f d line m ms stop begins.Dependency (res >>= (λ dep. Ok (add_dependency d dep line)))
with_room f d line m ms stop (Ok dep) room none =
    λ p n diagnostic. ⊎_elim (none p n) (λ full. omega (arith, full.2)) diagnostic
with_room f d line m ms stop (Err e) room first = record {
  position = first.position;
  stands = inl first.stands;
  carries = first.carries;
  there = first.there;
  least = λ p n diagnostic. ⊎_elim (first.least p n) (λ full. absurd (omega (arith, full.2))) diagnostic;
}

begun_fits : (f : Format) (d : Declarations) (line : ℕ) (m : Mark) (ms : List Mark) (stop : Option LexError) (o : Result Reached SchemaRefusalKind) (b : Bool)
    → nat_le MOST_DEPENDENCY_LINES (length d.deps) ≡ b → StepFits f d.names start m o
    → FitsDependency f d.names line (m ∷ ms) stop (at line m.column m.length o >>= (λ next. follow f d.names line next (m.column + m.length) ms stop))
    → FitsHead f d line m ms stop begins.Dependency
    (at line m.column m.length (o >>= (λ next. cond b (Err kind.TooManyDependencies) (Ok next)))
    >>= (λ next. follow f d.names line next (m.column + m.length) ms stop >>= (λ dep. Ok (add_dependency d dep line))))
begun_fits f d line m ms stop (Err why) b full fit first =
    let here = first.least 0 (diagnostic_kind why)
    (token_diagnoses (dependency_judges (m ∷ ms) stop) f d.names 0 start m why refl refl fit) in
    record {
      position = first.position;
      stands = inl first.stands;
      carries = first.carries;
      there = first.there;
      least = λ p n diagnostic. ⊎_elim (first.least p n)
          (λ eight. inr (
            ⊎_elim (λ less. absurd (omega (arith, less))) (λ same. omega (arith, same.0, eight.1)) here,
            omega (arith, ap number_of eight.0, fit.2),
          )) diagnostic;
    }
begun_fits f d line m ms stop (Ok next) true full fit fits =
    first_at (HeadDiagnostic f d m ms stop begins.Dependency) (HeadWants m ms begins.Dependency) (span_at line 1 (m ∷ ms) stop)
    (refusal line m.column m.length kind.TooManyDependencies) 0
    (λ p n less. absurd (omega arith)) (inr (refl, refl, leb-true _ _ full)) tt refl
    (λ n diagnostic. ⊎_elim (λ other. absurd (
    ⊎_elim (fit.1 n) (λ six.
    ((dependency_judges (m ∷ ms) stop).goes_on 0 at_start (shape_of next) m refl refl fit.0).0 six.1)
    (at_token (IsStuck (kinds (m ∷ ms)) stop) f d.names (m ∷ ms) stop 0 m refl n other)
    )) (λ eight. omega (arith, ap number_of eight.0)) diagnostic)
begun_fits f d line m ms stop (Ok next) false full fit fits =
    with_room f d line m ms stop (follow f d.names line next (m.column + m.length) ms stop) (leb-false _ _ full) fits

-- a line of a schema text is refused by its first diagnostic, and read where there is none
pub text-line-law : (f : Format) (d : Declarations) (line : ℕ) (ms : List Mark) (stop : Option LexError) → FitsTextLine f d line ms stop (line_of_marks f line d ms stop)
unfolding dependency_line begin follow
text-line-law f d line [] None = λ p n diagnostic. let wrong = diagnostic.1 in cc
text-line-law f d line [] (Some s) =
    first_at (TextLineDiagnostic f d [] (Some s)) (TextLineWants f []) (span_at line 1 [] (Some s))
    (refused_by line s) 0
    (λ p n less. absurd (omega arith)) (s, refl, refl, flaw_kind s.flaw)
    (flaw_carries (TextLineWants f [] 0) s.flaw) refl
    (λ n diagnostic. flaw_least s diagnostic.0 n diagnostic.1 diagnostic.3)
text-line-law f d line (m ∷ ms) stop =
    fits (line_from f line d m ms stop (line_kind f m.kind m.word)) (head (line_kind f m.kind m.word))
  where
    judged_names : (Wrong : List Mark → Mark → DiagnosticKind → Type 0) (res : Result Declarations SchemaRefusal)
        → FitsNames Wrong line (m.column + m.length) ms stop res
        → Judged (NamesDiagnostic Wrong ms stop) NamesWant (span_at line (m.column + m.length) ms stop) res
    judged_names Wrong (Ok whole) none = none
    judged_names Wrong (Err e) first = first

    head : (k : LineKind) → FitsHead f d line m ms stop k (line_from f line d m ms stop k)
    head (begins.Names p) =
        later_judged (NamesDiagnostic (NameDiagnostic f d p) ms stop) NamesWant line m ms stop _
        (judged_names (NameDiagnostic f d p) _ (names-law f p d line (m.column + m.length) ms stop))
    head begins.Decimal =
        later_judged (ColumnsDiagnostic f d begins.Decimal ms stop) (ColumnsWant begins.Decimal) line m ms stop _
        (columns-law f d begins.Decimal line (m.column + m.length) ms stop decimal_fits)
    head begins.Other =
        later_judged (ColumnsDiagnostic f d begins.Other ms stop) (ColumnsWant begins.Other) line m ms stop _
        (columns-law f d begins.Other line (m.column + m.length) ms stop other_fits)
    head begins.Dependency =
        begun_fits f d line m ms stop (step f d.names start m.kind m.word)
        (nat_le MOST_DEPENDENCY_LINES (length d.deps)) refl (step_fits f d.names start m)
        (line-law f d.names line (m ∷ ms) stop)

    fits : (res : Result Declarations SchemaRefusal)
        → FitsHead f d line m ms stop (line_kind f m.kind m.word) res → FitsTextLine f d line (m ∷ ms) stop res
    fits (Ok whole) none = none
    fits (Err e) first = first
