-- The words of a line: for the meaning of lines (`LineDiagnostics`) and their reading (`Readers`).
use Rattle.std.specs.Prelude.{ℕ, Bool, false, if◌then◌else◌, List, Option, Some, None, codes}
use Rattle.std.specs.Str.{bytes_eq}
use Rattle.lexer.specs.declared.token.TokenKind.{TokenKind}
use Rattle.lexer.specs.declared.token.TokenKind.TheVariants as token
use Rattle.proof_grammar.specs.declared.rule_name.RuleName.{RuleName}
use Rattle.proof_grammar.specs.declared.rule_name.RuleName.TheVariants as rule

-- whether a token is the word `with`
unfoldable pub is_with : TokenKind → List ℕ → Bool
is_with token.Identifier word = bytes_eq word (codes "with")
is_with _ word = false

-- the rule whose name a word is
unfoldable pub rule_word : List ℕ → Option RuleName
rule_word word =
    if bytes_eq word (codes "given") then Some rule.Given
    else if bytes_eq word (codes "reflexivity") then Some rule.Reflexivity
    else if bytes_eq word (codes "augmentation") then Some rule.Augmentation
    else if bytes_eq word (codes "transitivity") then Some rule.Transitivity
    else if bytes_eq word (codes "complementation") then Some rule.Complementation
    else if bytes_eq word (codes "mreflexivity") then Some rule.MReflexivity
    else if bytes_eq word (codes "maugmentation") then Some rule.MAugmentation
    else if bytes_eq word (codes "mtransitivity") then Some rule.MTransitivity
    else if bytes_eq word (codes "replication") then Some rule.Replication
    else if bytes_eq word (codes "coalescence") then Some rule.Coalescence
    else None

-- the rule that a token names, where `named` says which one a word names
unfoldable pub named_by : {R : Type 0} → (List ℕ → Option R) → TokenKind → List ℕ → Option R
named_by named token.Identifier word = named word
named_by named _ word = None
