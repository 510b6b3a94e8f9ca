-- What the lines of a derivation mean, by their grammar, and of which lines a text is a derivation: for
-- `read_derivation`, and for what a text derives (`Derivations`).
use Rattle.std.specs.Prelude.{◌≡◌, ◌<◌, ◌≤◌, ◌+◌, ℕ, List, [], ◌∷◌, All, length, codes}
use Rattle.std.specs.List.{AllZip}
use Rattle.schema_model.specs.Schemas.{Schema, names_of, naming_of}
use Rattle.derivation.specs.declared.measures.TheConstants.{MOST_NODES}
use Rattle.schema_model.specs.declared.naming.Naming.{Naming}
use Rattle.lexer.specs.Tokens.{Mark}
use Rattle.proof_grammar.specs.Lines.{by_step, by_pair}
use Rattle.proof_grammar.specs.Meanings.{IsNumber, IsKeyword, MeansLineBy, IsRule, certificate_lines}
use Rattle.derivation_rules.specs.FurtherRules.{Further}
use Rattle.derivation_rules.specs.FurtherRules as further
use Rattle.derivation_grammar.specs.Lines.{DerivationBody, by_rule, by_decomposition, by_further, DerivationLine}

-- the names of the further rules over two premises
abbrev pub further_name : Further → List ℕ
further_name further.union = codes "union"
further_name further.pseudotransitivity = codes "pseudotransitivity"
further_name further.intersection = codes "intersection"
further_name further.difference = codes "difference"
further_name further.mpseudotransitivity = codes "mpseudotransitivity"

-- a name and the line of its premise
pub record IsOverOne (ms : List Mark) (word : List ℕ) (p : ℕ) : Type 0 where
  pub name : Mark
  pub premise : Mark
  pub whole : ms ≡ name ∷ premise ∷ []
  pub says : IsKeyword word name
  pub number : IsNumber p premise

-- a name and the lines of both premises
pub record IsOverTwo (ms : List Mark) (word : List ℕ) (p q : ℕ) : Type 0 where
  pub name : Mark
  pub first : Mark
  pub second : Mark
  pub whole : ms ≡ name ∷ first ∷ second ∷ []
  pub says : IsKeyword word name
  pub first_number : IsNumber p first
  pub second_number : IsNumber q second

-- the rule of a line: one of certificates, or a further one
abbrev pub IsLineRule : List (List ℕ) → List Mark → DerivationBody → Type 0
IsLineRule names ms (by_rule b) = IsRule names ms b
IsLineRule names ms (by_decomposition p) = IsOverOne ms (codes "decomposition") p
IsLineRule names ms (by_further r p q) = IsOverTwo ms (further_name r) p q

-- a text means a line with such a rule
abbrev pub MeansDerivationLine : Naming → List (List ℕ) → List ℕ → DerivationLine → Type 0
MeansDerivationLine naming names text l = MeansLineBy DerivationBody IsLineRule naming names text l

-- each text means its line
abbrev pub MeanDerivationLines : Naming → List (List ℕ) → List (List ℕ) → List DerivationLine → Type 0
MeanDerivationLines naming names = AllZip (MeansDerivationLine naming names)

-- ---- lines one after another
-- the numbers of the lines that a rule names, in its order
abbrev pub premises_of : DerivationBody → List ℕ
premises_of (by_rule (by_step r p)) = p ∷ []
premises_of (by_rule (by_pair r p q)) = p ∷ q ∷ []
premises_of (by_rule _) = []
premises_of (by_decomposition p) = p ∷ []
premises_of (by_further r p q) = p ∷ q ∷ []

-- the number of one of so many lines
abbrev pub IsEarlier : ℕ → ℕ → Type 0
IsEarlier count p = (0 < p) × (p ≤ count)

-- a line after so many others is numbered in its turn, and its rule names earlier lines
pub record IsInTurn (count : ℕ) (l : DerivationLine) : Type 0 where
  pub number : l.number ≡ count + 1
  pub premises : All (IsEarlier count) (premises_of l.body)

-- so is each of these, after so many others
abbrev pub AreInTurn : ℕ → List DerivationLine → Type 0
AreInTurn count [] = Unit {0}
AreInTurn count (l ∷ ls) = IsInTurn count l × AreInTurn (count + 1) ls

-- a text is a derivation of these lines, whatever their rules give: it means them, they stand in their turn,
-- and there is one and no more than the limit allows
pub record MeansDerivation (s : Schema) (text : List ℕ) (lines : List DerivationLine) : Type 0 where
  pub mean : MeanDerivationLines (naming_of s) (names_of s) (certificate_lines (naming_of s) text) lines
  pub in_turn : AreInTurn 0 lines
  pub some : 0 < length lines
  pub lines_fit : length lines ≤ MOST_NODES

-- lines are a derivation of some text
abbrev pub IsDerivation : Schema → List DerivationLine → Type 0
IsDerivation s lines = (text : List ℕ) × MeansDerivation s text lines
