-- A schema text has one refusal at most.
use Rattle.std.specs.Prelude.{◌↔◌}
use Rattle.std.proofs.Common.{◌≡◌, ◌+◌, inl, inr, ℕ, List, [], ◌∷◌, length, Err, refl, sym, ◌∙◌, ap, arith, ⊎_elim}
use Rattle.std.proofs.lemmas.List.{append-nil}
use Rattle.schema_model.specs.declared.naming.Naming.{Naming}
use Rattle.schema_model.specs.declared.naming.Naming.TheVariants.{Bare}
use Rattle.lexer.specs.Modes as mode
use Rattle.lexer.specs.Lines.{line_texts, without_mark}
use Rattle.lexer.specs.Tokens.{lex}
use Rattle.schema_grammar.specs.declared.format.Format.{Format}
use Rattle.schema_grammar.specs.declared.format.Format.TheVariants as format
use Rattle.schema_grammar.specs.declared.refusal.SchemaRefusal.{SchemaRefusal}
use Rattle.schema_grammar.specs.declared.refusal.What.TheVariants as what
use Rattle.schema_grammar.specs.Diagnostics.{TextLineWants, IsFirst, TextLineDiagnostic, FitsTextLine, FitsGoal, RefusesGoal, span_at}
use Rattle.schema_grammar.specs.Declarations.{Declarations, no_declaration, read_line}
use Rattle.schema_grammar.specs.LineTokens.{naming_in, lex_line}
use Rattle.schema_grammar.specs.Reading.{read_goal}
use Rattle.schema_grammar.specs.Rests.{◌>>=◌}
use Rattle.schema_grammar.specs.Schemas.{RefusesLines, FitsVersion, RefusesText, RefusesSchema}
use Rattle.schema_grammar.specs.Texts.{read_lines, read_all, read_opening, read_text, finish}
use Rattle.schema_grammar.proofs.DiagnosticLaws.{goal-diagnostic-law, goal_refused}
use Rattle.schema_grammar.proofs.DeclaringLaws.{before_read}
use Rattle.schema_grammar.proofs.LinesLaws.{line-law}
use Rattle.schema_grammar.proofs.OneRefusal.{one_refused, AtFirst-one, one_text_line, one_want}
use Rattle.schema_grammar.proofs.TextLaws.{version-law, schema_refused}
use Rattle.schema_grammar.proofs.SchemaLaws.{plain_opening, versioned_opening, version_opening}

-- lines are refused so where the definition refuses them so
lines_refused : (f : Format) (first : ℕ) (d : Declarations) (lines : List (List ℕ)) (e : SchemaRefusal)
    → RefusesLines f first d lines e
    → read_lines f first d lines ≡ Err e
unfolding read_lines finish
lines_refused f first d lines e (inl found) =
    let stands = found.stands in
    let marks = (lex_line f stands.line).marks in
    let stop = (lex_line f stands.line).stop in
    let number = first + length stands.before in
    let on_line : IsFirst (TextLineDiagnostic f stands.declared marks stop) (TextLineWants f marks)
    (span_at number 1 marks stop) e = record {
      position = found.position;
      stands = stands.diagnostic;
      carries = found.carries;
      there = found.there ∙ ap (λ k. span_at k 1 marks stop found.position) stands.stands_on;
      least = λ p n diagnostic. ⊎_elim (λ less. absurd (omega arith)) (λ here. here.1)
          (found.least e.span.line p n (record {
            before = stands.before;
            line = stands.line;
            after = stands.after;
            declared = stands.declared;
            cut = stands.cut;
            means = stands.means;
            stands_on = stands.stands_on;
            diagnostic = diagnostic;
          }));
    } in
    let refused : read_line f number stands.declared stands.line ≡ Err e =
    one_refused (FitsTextLine f stands.declared number marks stop) _ _ _ (λ x none. none) (λ g first. first)
    (one_text_line f marks) _ e
    (line-law f number stands.declared stands.line) on_line in
    ap (read_lines f first d) stands.cut ∙ before_read f first d stands.before
    (stands.line ∷ stands.after) stands.declared stands.means ∙ rw refused refl
lines_refused f first d lines e (inr empty) =
    ap (read_lines f first d) (sym (append-nil lines))
    ∙ before_read f first d lines [] empty.whole empty.means
    ∙ rw empty.nothing (ap Err (sym empty.at_the_end))

pub schema-refusal-law : (text : List ℕ) (e : SchemaRefusal) → (read_text text ≡ Err e) ↔ RefusesSchema text e
unfolding read_text
schema-refusal-law text e = (schema_refused text e, back)
  where
    lines : List (List ℕ)
    lines = line_texts (without_mark text)

    back : RefusesText 1 lines e → read_opening 1 lines ≡ Err e
    back (inl (none, refuses)) =
        plain_opening 1 lines none ∙ lines_refused format.Plain 1 (no_declaration Bare) lines e refuses
    back (inr (has, inl first)) =
        let refused = one_refused
        (FitsVersion (length has.before + 1) (has.head.column + has.head.length) has.others
        (lex (mode.numbered Bare) has.version).stop) _ _ _
        (λ x none. none) (λ g first. first) (AtFirst-one what.Number) _ e (version-law _ _ _ _) first in
        versioned_opening 1 lines has
        ∙ ap (λ r. r >>= (λ f. read_all f (length has.before + 1 + 1) has.later)) refused
    back (inr (has, inr (f, is, refuses))) =
        version_opening 1 lines has.before has.version has.later f has.cut has.blank is
        ∙ lines_refused f (length has.before + 1 + 1) (no_declaration (naming_in f)) has.later e refuses

pub goal-refusal-law : (naming : Naming) (declared : List (List ℕ)) (text : List ℕ) (e : SchemaRefusal) → (read_goal naming declared text ≡ Err e) ↔ RefusesGoal naming declared text e
goal-refusal-law naming declared text e = (
  goal_refused naming declared text e,
  λ first.
      one_refused (FitsGoal naming declared text) _ _ _ (λ x none. none) (λ g first. first) (λ p. one_want _) _ e
      (goal-diagnostic-law naming declared text) first,
)
