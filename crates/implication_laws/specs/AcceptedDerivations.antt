-- When a text is accepted as a derivation of a goal: for the law of `explain implies`. `Desk` does not cite it.
use Rattle.std.specs.Prelude.{◌≡◌, ℕ, List}
use Rattle.derivation_grammar.specs.Lines.{DerivationLine}
use Rattle.derivation_grammar.specs.Meanings.{MeansDerivation}
use Rattle.schema_model.specs.Schemas.{Schema}
use Rattle.desk_implication.specs.Derivations.{ChecksDerivation}
use Rattle.desk_responses.specs.ResponseValues.{ResponseValue}
use Rattle.desk_responses.specs.declared.status.Status.TheVariants.{Yes}

-- a text is a derivation, of which `check derivation` says that it derives the goal
abbrev pub IsAcceptedFor : Schema → List ℕ → List ℕ → Type 0
IsAcceptedFor schema goal text =
    (lines : List DerivationLine) × MeansDerivation schema text lines
    × ((checked : ResponseValue) → ChecksDerivation schema lines goal checked → checked.status ≡ Yes)
