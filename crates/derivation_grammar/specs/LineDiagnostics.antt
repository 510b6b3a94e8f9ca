-- How the grammar refuses a line of a derivation: as that of certificates does, where the names of the further
-- rules count too. For `Refusals`.
use Rattle.std.specs.Prelude.{ℕ, List, option_map}
use Rattle.schema_model.specs.declared.naming.Naming.{Naming}
use Rattle.lexer.specs.Modes as mode
use Rattle.lexer.specs.Tokens.{lex}
use Rattle.schema_grammar.specs.declared.refusal.SchemaRefusal.{SchemaRefusal}
use Rattle.proof_grammar.specs.LineDiagnostics.{RuleForm, with_one, with_two, Names, rule_form, RefusesTokens}
use Rattle.derivation_grammar.specs.declared.line_rule.LineRule.{LineRule}
use Rattle.derivation_grammar.specs.declared.line_rule.LineRule.TheVariants as rule
use Rattle.derivation_grammar.specs.Lines.{line_rule_word}

-- what follows the name of a rule
abbrev pub line_rule_form : LineRule → RuleForm
line_rule_form (rule.Certificate r) = rule_form r
line_rule_form rule.Decomposition = with_one
line_rule_form (rule.Further r) = with_two

-- the names of all rules, beside these of attributes
abbrev pub derivation_names : List (List ℕ) → Names
derivation_names names =
    record { attributes = names; rules = λ word. option_map line_rule_form (line_rule_word word) }

-- the line of this number of a derivation's text is refused so
abbrev pub RefusesDerivationLine : Naming → List (List ℕ) → ℕ → List ℕ → SchemaRefusal → Type 0
RefusesDerivationLine naming names line text e =
    let l = lex (mode.numbered naming) text in RefusesTokens (derivation_names names) line l.marks l.stop e
