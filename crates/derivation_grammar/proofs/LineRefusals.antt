-- A line of a derivation is refused exactly by its first diagnostic.
use Rattle.std.specs.Prelude.{◌↔◌}
use Rattle.std.proofs.Common.{◌≡◌, ℕ, List, Option, Err, refl}
use Rattle.schema_model.specs.declared.naming.Naming.{Naming}
use Rattle.lexer.specs.Modes as mode
use Rattle.lexer.specs.declared.token.LexError.{LexError}
use Rattle.lexer.specs.Tokens.{Mark, lex}
use Rattle.schema_grammar.specs.declared.refusal.SchemaRefusal.{SchemaRefusal}
use Rattle.schema_grammar.specs.Rests.{rest_from, number}
use Rattle.proof_grammar.specs.Lines.{body}
use Rattle.proof_grammar.specs.Tokens.{rule_word}
use Rattle.proof_grammar.proofs.FormShapes.{at_start}
use Rattle.proof_grammar.proofs.JudgedLines.{Judged}
use Rattle.proof_grammar.proofs.JudgedRules.{AreJudged, last_judged, two_judged, body_judged, line_judged_by}
use Rattle.proof_grammar.proofs.JudgedTokens.{left_at, in_row}
use Rattle.proof_grammar.proofs.LineRefusals.{judged_refuses}
use Rattle.derivation_rules.specs.Views.{further_of}
use Rattle.derivation_grammar.specs.declared.line_rule.LineRule.TheVariants as rule
use Rattle.derivation_grammar.specs.LineDiagnostics.{line_rule_form, derivation_names, RefusesDerivationLine}
use Rattle.derivation_grammar.specs.Lines.{by_rule, by_decomposition, by_further, line_rule_word, derivation_body, derivation_rules, derivation_line}

bodies_judged : (names : List (List ℕ)) → AreJudged derivation_rules line_rule_form (derivation_names names)
unfolding derivation_body line_rule_word rule_word
bodies_judged names (rule.Certificate r) at next_column ms stop f follows =
    in_row _ (derivation_names names) at next_column ms stop (body names r (left_at at next_column ms stop)) _ f
    (body_judged (derivation_names names) refl r at next_column ms stop _
    (λ b words k from ns is none. follows (by_rule b) words k from ns is none))
bodies_judged names rule.Decomposition at next_column ms stop f follows =
    last_judged by_decomposition (derivation_names names) at next_column ms stop f follows
bodies_judged names (rule.Further r) at next_column ms stop f follows =
    two_judged (by_further (further_of r)) (derivation_names names) at next_column ms stop f follows

line_judged : (names : List (List ℕ)) (at next_column : ℕ) (ms : List Mark) (stop : Option LexError)
    → Judged at_start (derivation_names names) at next_column ms stop
    (derivation_line names (left_at at next_column ms stop))
line_judged names =
    line_judged_by derivation_rules line_rule_form (derivation_names names) (λ word. refl) (bodies_judged names)

pub refusal_law : (naming : Naming) (names : List (List ℕ)) (number : ℕ) (text : List ℕ) (e : SchemaRefusal)
    → (derivation_line names (rest_from number 1 (lex (mode.numbered naming) text)) ≡ Err e)
    ↔ RefusesDerivationLine naming names number text e
refusal_law naming names number text e =
    let l = lex (mode.numbered naming) text in
    judged_refuses (derivation_names names) number l.marks l.stop _ e (line_judged names number 1 l.marks l.stop)
