-- The lines of certificates and of derivations, and how one is read from left to right: for their meaning,
-- their reading and their printing. The grammar of a line is one; which rules it may name is a parameter.
use Rattle.std.specs.Prelude.{ℕ, List, Option, Result, Ok, ok_or}
use Rattle.dep_model.specs.Dependencies.{Dependency}
use Rattle.derivation.specs.Trees.{Step, augmentation, maugmentation, complementation, replication, Pair}
use Rattle.derivation.specs.Trees.{transitivity, mtransitivity, coalescence}
use Rattle.lexer.specs.Tokens.{Mark}
use Rattle.schema_grammar.specs.declared.refusal.SchemaRefusal.{SchemaRefusal}
use Rattle.schema_grammar.specs.declared.refusal.What.TheVariants as what
use Rattle.proof_grammar.specs.declared.rule_name.RuleName.{RuleName}
use Rattle.proof_grammar.specs.declared.rule_name.RuleName.TheVariants as rule
use Rattle.schema_grammar.specs.Grammar as grammar
use Rattle.schema_grammar.specs.Rests.{Rest, ◌>>=◌, take, refusal_of_token, number_in, number, arrow, refusal_at_end}
use Rattle.schema_grammar.specs.Rests.{unless, side}
use Rattle.proof_grammar.specs.Readers.{colon, with_word, rule_by}
use Rattle.proof_grammar.specs.Tokens.{rule_word}

-- ---- any lines
-- a line: its number, a dependency, and what it says of that
pub record NumberedLine (B : Type 0) : Type 0 where
  pub number : ℕ
  pub stated : Dependency
  pub body : B

-- the rules that lines may name: which one a word names, and what follows the name
pub record Rules (R B : Type 0) : Type 0 where
  pub named : List ℕ → Option R
  pub body : List (List ℕ) → R → Rest → Result (B × Rest) SchemaRefusal

-- side, arrow, side
unfoldable pub stated_dependency : List (List ℕ) → Rest → Result (Dependency × Rest) SchemaRefusal
stated_dependency names start = do
  x ← side names start
  a ← arrow x.1
  y ← side names a.1
  Ok (grammar.dependency_of_sign a.0 x.0 y.0, y.1)

-- what follows the first token, which is a number: `:`, a dependency, `:`, the rule
unfoldable pub line_by_from : {R B : Type 0} → Rules R B → List (List ℕ) → Mark → Rest
    → Result (NumberedLine B) SchemaRefusal
line_by_from rules names m rest = do
  n ← ok_or (number_in m.kind) (refusal_of_token what.Number m rest)
  c ← colon rest
  d ← stated_dependency names c
  e ← colon d.1
  r ← rule_by rules.named e
  b ← rules.body names r.0 r.1
  unless (refusal_at_end b.1) (record { number = n; stated = d.0; body = b.0 })

-- the whole line
unfoldable pub line_by : {R B : Type 0} → Rules R B → List (List ℕ) → Rest
    → Result (NumberedLine B) SchemaRefusal
line_by rules names start = take what.Number start >>= λ t. line_by_from rules names t.0 t.1

-- ---- those of certificates
-- what a line says of its dependency: the rule, and the lines of its premises
pub data Body : Type 0 where
  by_given : ℕ → Body
  by_reflexivity : Body
  by_mreflexivity : Body
  by_step : Step → ℕ → Body
  by_pair : Pair → ℕ → ℕ → Body

-- a line of a certificate
abbrev pub Line : Type 0
Line = NumberedLine Body

-- the number of one earlier line
unfoldable pub one_premise : Step → Rest → Result (Body × Rest) SchemaRefusal
one_premise r start = do
  p ← number start
  Ok (by_step r p.0, p.1)

-- the numbers of two earlier lines
unfoldable pub two_premises : Pair → Rest → Result (Body × Rest) SchemaRefusal
two_premises r start = do
  p ← number start
  q ← number p.1
  Ok (by_pair r p.0 q.0, q.1)

-- the number of an earlier line, `with`, a side
unfoldable pub augmentation_body : List (List ℕ) → Rest → Result (Body × Rest) SchemaRefusal
augmentation_body names start = do
  p ← number start
  w ← with_word p.1
  z ← side names w
  Ok (by_step (augmentation z.0) p.0, z.1)

-- the number of an earlier line, `with`, a side, `:`, a side
unfoldable pub maugmentation_body : List (List ℕ) → Rest → Result (Body × Rest) SchemaRefusal
maugmentation_body names start = do
  p ← number start
  w ← with_word p.1
  wide ← side names w
  c ← colon wide.1
  narrow ← side names c
  Ok (by_step (maugmentation wide.0 narrow.0) p.0, narrow.1)

-- what follows the name of this rule
unfoldable pub body : List (List ℕ) → RuleName → Rest → Result (Body × Rest) SchemaRefusal
body names rule.Given start = do
  k ← number start
  Ok (by_given k.0, k.1)
body names rule.Reflexivity start = Ok (by_reflexivity, start)
body names rule.MReflexivity start = Ok (by_mreflexivity, start)
body names rule.Augmentation start = augmentation_body names start
body names rule.MAugmentation start = maugmentation_body names start
body names rule.Complementation start = one_premise complementation start
body names rule.Replication start = one_premise replication start
body names rule.Transitivity start = two_premises transitivity start
body names rule.MTransitivity start = two_premises mtransitivity start
body names rule.Coalescence start = two_premises coalescence start

-- the ten rules
abbrev pub certificate_rules : Rules RuleName Body
certificate_rules = record { named = rule_word; body = body }

-- a line of a certificate, from its first token on, and the whole line
abbrev pub certificate_line_from : List (List ℕ) → Mark → Rest → Result Line SchemaRefusal
certificate_line_from names m rest = line_by_from certificate_rules names m rest

abbrev pub certificate_line : List (List ℕ) → Rest → Result Line SchemaRefusal
certificate_line names start = line_by certificate_rules names start
