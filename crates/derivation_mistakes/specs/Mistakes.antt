-- What is wrong with the lines of a derivation, each judged as if the lines before state what is true: for
-- `mistakes` and `check derivation`.
use Rattle.std.specs.Prelude.{◌≡◌, ◌⊎◌, ◌↔◌, ◌++◌, Bool, IsTrue, List, [], ◌∷◌, Some, Ok}
use Rattle.schema_model.specs.Schemas.{Schema, ImpliedBy}
use Rattle.dep_model.specs.Dependencies.{Dependency}
use Rattle.derivation_grammar.specs.Derivations.{outcome_of_line}
use Rattle.derivation_grammar.specs.Lines.{DerivationLine}
use Rattle.derivation_mistakes.specs.declared.misuse.Misuse.{Misuse}
use Rattle.derivation_mistakes.specs.Misuses.{IsMisuse}

-- what is wrong with a line: its rule does not apply, or gives another dependency
pub data Mistake : Type 0 where
  does_not_apply : Misuse → Mistake
  gives : Dependency → Mistake

-- the rule of a line gives what the line states
abbrev pub IsRight : Schema → List Dependency → DerivationLine → Type 0
IsRight s before l = outcome_of_line s before l.stated l.body ≡ Some (Ok l.stated)

-- what is wrong with a line after lines that state these
abbrev pub IsMistake : Schema → List Dependency → DerivationLine → Mistake → Type 0
IsMistake s before l (does_not_apply why) = IsMisuse s before l.stated l.body why
IsMistake s before l (gives d) = (outcome_of_line s before l.stated l.body ≡ Some (Ok d)) × (l.stated ≡ d → ⊥)

-- a wrong line, and whether what it states follows from the schema all the same
pub record MistakenLine : Type 0 where
  pub line : DerivationLine
  pub mistake : Mistake
  pub follows : Bool

pub record IsMistakenLine (s : Schema) (before : List Dependency) (l : DerivationLine) (w : MistakenLine) : Type 0 where
  pub line : w.line ≡ l
  pub mistake : IsMistake s before l w.mistake
  pub follows : IsTrue w.follows ↔ ImpliedBy s l.stated

-- exactly the wrong ones of lines, in their order, after lines that state these
abbrev pub AreMistakenLines : Schema → List Dependency → List DerivationLine → List MistakenLine → Type 0
AreMistakenLines s before [] found = found ≡ []
AreMistakenLines s before (l ∷ ls) found =
    (IsRight s before l × AreMistakenLines s (before ++ l.stated ∷ []) ls found)
    ⊎ ((w : MistakenLine) × (rest : List MistakenLine) × IsMistakenLine s before l w × (found ≡ w ∷ rest)
    × AreMistakenLines s (before ++ l.stated ∷ []) ls rest)
