-- The lines of a derivation, which are those of certificates with further rules: for the meaning and the
-- reading of derivations.
use Rattle.std.specs.Prelude.{ℕ, List, Option, Some, option_map, if◌then◌else◌, Result, Ok, codes}
use Rattle.std.specs.Str.{bytes_eq}
use Rattle.lexer.specs.Tokens.{Mark}
use Rattle.schema_grammar.specs.declared.refusal.SchemaRefusal.{SchemaRefusal}
use Rattle.schema_grammar.specs.Rests.{Rest, ◌>>=◌, number}
use Rattle.proof_grammar.specs.Lines.{NumberedLine, Rules, line_by_from, line_by, Body, body}
use Rattle.proof_grammar.specs.Readers.{rule_by}
use Rattle.proof_grammar.specs.Tokens.{rule_word}
use Rattle.derivation_rules.specs.declared.rule.FurtherRule.TheVariants as further
use Rattle.derivation_rules.specs.FurtherRules.{Further}
use Rattle.derivation_rules.specs.Views.{further_of}
use Rattle.derivation_grammar.specs.declared.line_rule.LineRule.{LineRule}
use Rattle.derivation_grammar.specs.declared.line_rule.LineRule.TheVariants as rule

-- what a line says of its dependency: a rule of certificates, or a further one with the lines of its
-- premises
pub data DerivationBody : Type 0 where
  by_rule : Body → DerivationBody
  by_decomposition : ℕ → DerivationBody
  by_further : Further → ℕ → ℕ → DerivationBody

-- a line of a derivation
abbrev pub DerivationLine : Type 0
DerivationLine = NumberedLine DerivationBody

-- ---- the rule
-- the rule whose name a word is
unfoldable pub line_rule_word : List ℕ → Option LineRule
line_rule_word word =
    if bytes_eq word (codes "union") then Some (rule.Further further.Union)
    else if bytes_eq word (codes "decomposition") then Some rule.Decomposition
    else if bytes_eq word (codes "pseudotransitivity") then Some (rule.Further further.Pseudotransitivity)
    else if bytes_eq word (codes "intersection") then Some (rule.Further further.Intersection)
    else if bytes_eq word (codes "difference") then Some (rule.Further further.Difference)
    else if bytes_eq word (codes "mpseudotransitivity") then Some (rule.Further further.MPseudotransitivity)
    else option_map rule.Certificate (rule_word word)

-- the rule that the next word names, and what is left
abbrev pub line_rule_name : Rest → Result (LineRule × Rest) SchemaRefusal
line_rule_name r = rule_by line_rule_word r

-- what follows the name of this rule: for a further one, the numbers of its premises
unfoldable pub derivation_body : List (List ℕ) → LineRule → Rest
    → Result (DerivationBody × Rest) SchemaRefusal
derivation_body names (rule.Certificate r) start = do
  b ← body names r start
  Ok (by_rule b.0, b.1)
derivation_body names rule.Decomposition start = do
  p ← number start
  Ok (by_decomposition p.0, p.1)
derivation_body names (rule.Further r) start = do
  p ← number start
  q ← number p.1
  Ok (by_further (further_of r) p.0 q.0, q.1)

-- ---- the whole line
-- all rules
abbrev pub derivation_rules : Rules LineRule DerivationBody
derivation_rules = record { named = line_rule_word; body = derivation_body }

-- a line, from its first token on, and the whole line
abbrev pub derivation_line_from : List (List ℕ) → Mark → Rest → Result DerivationLine SchemaRefusal
derivation_line_from names m rest = line_by_from derivation_rules names m rest

abbrev pub derivation_line : List (List ℕ) → Rest → Result DerivationLine SchemaRefusal
derivation_line names start = line_by derivation_rules names start
