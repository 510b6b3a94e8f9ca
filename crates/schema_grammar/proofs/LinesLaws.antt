-- Lines of a schema text, one after the other, are read or refused at the first bad one.
use Rattle.std.proofs.Common.{◌≡◌, ◌<◌, ◌+◌, ◌-◌, ◌⊎◌, inl, inr, ℕ, zero, suc, List, [], ◌∷◌, ◌++◌, length, Some, None, Ok, Err, Result, refl, sym, ◌∙◌, ap, subst, arith, ◌==◌, ⊎_elim, length-append}
use Rattle.std.proofs.lemmas.Bool.{cases_Bool}
use Rattle.std.proofs.lemmas.Bool.Decides.{nat_tests}
use Rattle.lexer.specs.Tokens.{Mark}
use Rattle.schema_grammar.specs.declared.refusal.SchemaRefusal.{SchemaRefusal}
use Rattle.schema_grammar.specs.declared.refusal.SchemaRefusalKind.TheVariants as kind
use Rattle.schema_grammar.specs.declared.format.Format.{Format}
use Rattle.schema_grammar.specs.DiagnosticKinds.{DiagnosticKind}
use Rattle.schema_grammar.specs.Diagnostics.{TextLineDiagnostic, FitsTextLine, span_at}
use Rattle.schema_grammar.specs.Declarations.{Declarations, read_line}
use Rattle.schema_grammar.specs.LineTokens.{lex_line}
use Rattle.schema_grammar.specs.Refusals.{refusal}
use Rattle.schema_grammar.specs.Rests.{◌>>=◌}
use Rattle.schema_grammar.specs.Schemas.{MeansTextLine, MeansLines, LinesDiagnostic, IsFirstOfLines, FitsLines}
use Rattle.schema_grammar.specs.Texts.{finish, read_lines}
use Rattle.schema_grammar.proofs.LineLaws.{text-line-law}
use Rattle.schema_grammar.proofs.DeclaringLaws.{line_there, line_back}
use Rattle.dep_model.proofs.ListLemmas.{cons_parts}

pub line-law : (f : Format) (number : ℕ) (d : Declarations) (text : List ℕ)
    → FitsTextLine f d number (lex_line f text).marks (lex_line f text).stop (read_line f number d text)
unfolding read_line
line-law f number d text = text-line-law f d number (lex_line f text).marks (lex_line f text).stop

-- the line of a refusal is that of its line's number
span-line : (line next_column : ℕ) (ms : List Mark) (stop : _) (p : ℕ) → (span_at line next_column ms stop p).line ≡ line
span-line line next_column [] None p = refl
span-line line next_column [] (Some s) p = refl
span-line line next_column (m ∷ ms) stop zero = refl
span-line line next_column (m ∷ ms) stop (suc p) = span-line line (m.column + m.length) ms stop p

-- a diagnostic of lines is one of the first line, or of the lines after it
abbrev DiagnosticParts : Format → ℕ → Declarations → List ℕ → List (List ℕ) → ℕ → ℕ → DiagnosticKind → Type 0
DiagnosticParts f first d line lines l p n =
    ((l ≡ first) × TextLineDiagnostic f d (lex_line f line).marks (lex_line f line).stop p n)
    ⊎ ((first < l) × ((next : Declarations) → read_line f first d line ≡ Ok next
    → LinesDiagnostic f (first + 1) next lines l p n))

diagnostic_parts : (f : Format) (first : ℕ) (d : Declarations) (line : List ℕ) (lines : List (List ℕ)) (l p : ℕ) (n : DiagnosticKind)
    → LinesDiagnostic f first d (line ∷ lines) l p n → DiagnosticParts f first d line lines l p n
diagnostic_parts f first d line lines l p n diagnostic =
    by_cases diagnostic.before diagnostic.cut diagnostic.means diagnostic.stands_on
  where
    by_cases : (before : List (List ℕ)) → line ∷ lines ≡ before ++ diagnostic.line ∷ diagnostic.after
        → MeansLines f first d before diagnostic.declared → l ≡ first + length before
        → DiagnosticParts f first d line lines l p n
    by_cases [] cut means stands_on =
        let same = cons_parts line diagnostic.line lines diagnostic.after cut in
        let of : List ℕ → Type 0 = λ t. TextLineDiagnostic f diagnostic.declared (lex_line f t).marks (lex_line f t).stop p n in
        let of_d : Declarations → Type 0 = λ t. TextLineDiagnostic f t (lex_line f line).marks (lex_line f line).stop p n in
        inl ((omega arith), subst of_d means (subst of (sym same.0) diagnostic.diagnostic))
    by_cases (one ∷ before) cut (middle, here, rest) stands_on =
        let same = cons_parts line one lines (before ++ diagnostic.line ∷ diagnostic.after) cut in
        let of : List ℕ → Type 0 = λ t. MeansTextLine f first d t middle in
        let of_d : Declarations → Type 0 = λ t. MeansLines f (first + 1) t before diagnostic.declared in
        inr (
          (omega arith),
          λ next read.
              let both : Ok middle ≡ Ok next =
              sym (line_back f first d line middle (subst of (sym same.0) here)) ∙ read in
              record {
                before = before;
                line = diagnostic.line;
                after = diagnostic.after;
                declared = diagnostic.declared;
                cut = same.1;
                means = subst of_d (let equal : middle ≡ next = cc in equal) rest;
                stands_on = omega arith;
                diagnostic = diagnostic.diagnostic;
              },
        )

lines_after : (f : Format) (first : ℕ) (d next : Declarations) (line : List ℕ) (lines : List (List ℕ))
    (res : Result Declarations SchemaRefusal) → read_line f first d line ≡ Ok next
    → FitsTextLine f d first (lex_line f line).marks (lex_line f line).stop (Ok next)
    → FitsLines f (first + 1) next lines res → FitsLines f first d (line ∷ lines) res
lines_after f first d next line lines (Ok whole) read none fits = λ l p n diagnostic.
    ⊎_elim (λ here. none p n here.1) (λ later. fits l p n (later.1 next read))
    (diagnostic_parts f first d line lines l p n diagnostic)
lines_after f first d next line lines (Err e) read none (inl found) = inl (record {
  position = found.position;
  stands = record {
    before = line ∷ found.stands.before;
    line = found.stands.line;
    after = found.stands.after;
    declared = found.stands.declared;
    cut = ap (λ t. line ∷ t) found.stands.cut;
    means = (next, line_there f first d line next read, found.stands.means);
    stands_on = let on = found.stands.stands_on in omega arith;
    diagnostic = found.stands.diagnostic;
  };
  carries = found.carries;
  there = found.there;
  least = λ l p n diagnostic.
      ⊎_elim (λ here. absurd (none p n here.1)) (λ later. found.least l p n (later.1 next read))
      (diagnostic_parts f first d line lines l p n diagnostic);
})
lines_after f first d next line lines (Err e) read none (inr empty) = inr (record {
  whole = empty.whole;
  means = (next, line_there f first d line next read, empty.means);
  nothing = empty.nothing;
  at_the_end = let last : (first + 1) + length lines - 1 ≡ first + suc (length lines) - 1 = omega arith in empty.at_the_end ∙ ap (λ k. refusal k 1 0 kind.NoAttributes) last;
})

-- a line that is refused
line_here : (f : Format) (first : ℕ) (d : Declarations) (line : List ℕ) (lines : List (List ℕ))
    (e : SchemaRefusal)
    → FitsTextLine f d first (lex_line f line).marks (lex_line f line).stop (Err e) → IsFirstOfLines f first d (line ∷ lines) e
line_here f first d line lines e found =
    let on : e.span.line ≡ first = ap (λ s. s.line) found.there ∙ span-line first 1 (lex_line f line).marks (lex_line f line).stop found.position in
    record {
      position = found.position;
      stands = record {
        before = [];
        line = line;
        after = lines;
        declared = d;
        cut = refl;
        means = refl;
        stands_on = omega arith;
        diagnostic = found.stands;
      };
      carries = found.carries;
      there = found.there ∙ ap (λ k. span_at k 1 (lex_line f line).marks (lex_line f line).stop found.position) (sym on);
      least = λ l p n diagnostic.
          ⊎_elim (λ here. inr (on ∙ sym here.0, found.least p n here.1))
          (λ later. inl (omega (arith, on, later.0))) (diagnostic_parts f first d line lines l p n diagnostic);
    }

-- lines are refused by the first diagnostic, or as declaring nothing, and read where there is neither
pub lines-law : (f : Format) (first : ℕ) (d : Declarations) (lines : List (List ℕ)) → FitsLines f first d lines (read_lines f first d lines)
unfolding read_lines finish
lines-law f first d [] = elim (cases_Bool (length d.names == 0)) [
  | inl none ↦ rw none (inr (record {
    whole = d;
    means = refl;
    nothing = grind (arith, nat_tests, none);
    at_the_end =
        let last : first - 1 ≡ first + 0 - 1 = omega arith in
        ap (λ k. refusal k 1 0 kind.NoAttributes) last;
  }))
  | inr not_empty ↦ rw not_empty (λ l p n diagnostic.
      let size = ap length diagnostic.cut ∙ length-append diagnostic.before
      (diagnostic.line ∷ diagnostic.after) in absurd (omega (arith, size)))
]
lines-law f first d (line ∷ lines) = by_cases (λ next. lines-law f (first + 1) next lines) (read_line f first d line) refl (line-law f first d line)
  where
    by_cases : ((next : Declarations) → FitsLines f (first + 1) next lines (read_lines f (first + 1) next lines)) → (o : Result Declarations SchemaRefusal) → read_line f first d line ≡ o → FitsTextLine f d first (lex_line f line).marks (lex_line f line).stop o
        → FitsLines f first d (line ∷ lines) (o >>= (λ next. read_lines f (first + 1) next lines))
    by_cases rest (Ok next) read fits =
        lines_after f first d next line lines (read_lines f (first + 1) next lines) read fits (rest next)
    by_cases rest (Err e) read fits = inl (line_here f first d line lines e fits)
