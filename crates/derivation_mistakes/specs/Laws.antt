-- The laws on what is wrong with the lines of a derivation: for the functions of `laws.rt`. `Desk` does not
-- cite it.
use Rattle.std.specs.Prelude.{◌≡◌, ◌↔◌, ℕ, List, []}
use Rattle.schema_model.specs.Schemas.{Schema}
use Rattle.dep_model.specs.Dependencies.{Dependency}
use Rattle.derivation_grammar.specs.Derivations.{Derives, LastStates}
use Rattle.derivation_grammar.specs.Lines.{DerivationLine}
use Rattle.derivation_grammar.specs.Meanings.{MeansDerivation}
use Rattle.derivation_mistakes.specs.Mistakes.{Mistake, IsRight, IsMistake, MistakenLine, AreMistakenLines}

-- one thing at most is wrong with a line, and none where its rule gives what it states
abbrev pub OneMistake : Type 0
OneMistake = (s : Schema) (before : List Dependency) (l : DerivationLine)
    → ((m n : Mistake) → IsMistake s before l m → IsMistake s before l n → m ≡ n)
    × ((m : Mistake) → IsRight s before l → IsMistake s before l m → ⊥)

-- the wrong ones of lines are one list
abbrev pub OneListOfMistakenLines : Type 0
OneListOfMistakenLines = (s : Schema) (lines : List DerivationLine) (one other : List MistakenLine)
    → AreMistakenLines s [] lines one → AreMistakenLines s [] lines other → one ≡ other

-- a text derives something exactly where it is a derivation of lines of which none is wrong and the last
-- states that
abbrev pub DerivesWithoutMistakes : Type 0
DerivesWithoutMistakes = (s : Schema) (text : List ℕ) (d : Dependency)
    → Derives s text d
    ↔ ((lines : List DerivationLine) × MeansDerivation s text lines × AreMistakenLines s [] lines []
    × LastStates lines d)
