-- Whether a derivation derives a goal, and what is wrong with its lines: for `check derivation`.
use Rattle.std.specs.Prelude.{◌≡◌, ◌⊎◌, ℕ, List, [], ◌++◌}
use Rattle.dep_model.specs.Dependencies.{Dependency}
use Rattle.schema_model.specs.Schemas.{ImpliedBy}
use Rattle.schema_model.specs.Schemas.{Schema}
use Rattle.schema_printer.specs.Spelling.{printed_names_of}
use Rattle.derivation_grammar.specs.Derivations.{LastStates}
use Rattle.derivation_grammar.specs.Lines.{DerivationLine}
use Rattle.derivation_mistakes.specs.Mistakes.{MistakenLine, AreMistakenLines}
use Rattle.desk_responses.specs.declared.status.Status.TheVariants.{Yes, No}
use Rattle.desk_responses.specs.ResponseValues.{Allowed, Says}
use Rattle.desk_arguments.specs.Goals.{WithGoal}
use Rattle.desk_implication.specs.Conclusions.{checked_text, concludes_text}
use Rattle.desk_implication.specs.MistakeTexts.{mistaken_lines_text}

-- yes exactly where no line is wrong and the last states the goal, which is then implied; else no, with the
-- wrong lines, and with both where the last states another dependency
abbrev pub DerivationJudged : Schema → List MistakenLine → Dependency → Dependency → Allowed
DerivationJudged schema found concluded goal response =
    ((found ≡ []) × (concluded ≡ goal) × ImpliedBy schema goal
    × Says Yes (checked_text (printed_names_of schema) goal) response)
    ⊎ (((found ≡ [] → ⊥) × (concluded ≡ goal)
    × Says No (mistaken_lines_text (printed_names_of schema) found) response)
    ⊎ ((concluded ≡ goal → ⊥)
    × Says No (mistaken_lines_text (printed_names_of schema) found
    ++ concludes_text (printed_names_of schema) concluded goal) response))

-- the same of a derivation's lines, each judged as if the lines before state what is true
abbrev pub DerivationChecked : Schema → List DerivationLine → Dependency → Allowed
DerivationChecked schema lines goal response =
    (found : List MistakenLine) × (concluded : Dependency) × AreMistakenLines schema [] lines found
    × LastStates lines concluded × DerivationJudged schema found concluded goal response

-- the same of lines and the text of a goal
abbrev pub ChecksDerivation : Schema → List DerivationLine → List ℕ → Allowed
ChecksDerivation schema lines goal = WithGoal schema goal (DerivationChecked schema lines)
