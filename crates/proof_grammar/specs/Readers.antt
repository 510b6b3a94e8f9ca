-- The colons and the words of a line, as they are read: for the reading of lines (`Lines`).
use Rattle.std.specs.Prelude.{ℕ, if◌then◌else◌, List, Option, Result, Ok, Err, ok_or}
use Rattle.lexer.specs.Tokens.{is_colon}
use Rattle.schema_grammar.specs.declared.refusal.SchemaRefusal.{SchemaRefusal}
use Rattle.schema_grammar.specs.declared.refusal.What.TheVariants as what
use Rattle.schema_grammar.specs.Rests.{Rest, ◌>>=◌, take, refusal_of_token}
use Rattle.proof_grammar.specs.declared.rule_name.RuleName.{RuleName}
use Rattle.proof_grammar.specs.Tokens.{is_with, rule_word, named_by}

-- what is left after a colon
unfoldable pub colon : Rest → Result Rest SchemaRefusal
colon r = do
  t ← take what.Colon r
  if is_colon t.0.kind then Ok t.1 else Err (refusal_of_token what.Colon t.0 t.1)

-- what is left after the word `with`
unfoldable pub with_word : Rest → Result Rest SchemaRefusal
with_word r = do
  t ← take what.With r
  if is_with t.0.kind t.0.word then Ok t.1 else Err (refusal_of_token what.With t.0 t.1)

-- the rule that the next word names, where `named` says which one that is, and what is left
unfoldable pub rule_by : {R : Type 0} → (List ℕ → Option R) → Rest → Result (R × Rest) SchemaRefusal
rule_by named r = do
  t ← take what.Rule r
  n ← ok_or (named_by named t.0.kind t.0.word) (refusal_of_token what.Rule t.0 t.1)
  Ok (n, t.1)

-- one of the ten
abbrev pub rule_name : Rest → Result (RuleName × Rest) SchemaRefusal
rule_name r = rule_by rule_word r
