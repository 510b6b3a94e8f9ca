-- Whether a certificate proves a goal: for `check proof`.
use Rattle.std.specs.Prelude.{◌⊎◌, ℕ, List}
use Rattle.dep_model.specs.Dependencies.{Dependency}
use Rattle.schema_model.specs.Schemas.{ImpliedBy, theory_in}
use Rattle.schema_model.specs.Schemas.{Schema}
use Rattle.schema_printer.specs.Spelling.{printed_names_of}
use Rattle.derivation.specs.Conclusions.{Proves}
use Rattle.derivation.specs.Trees.{Tree}
use Rattle.desk_responses.specs.declared.status.Status.TheVariants.{Yes, No}
use Rattle.desk_responses.specs.ResponseValues.{Allowed, Says}
use Rattle.desk_arguments.specs.Goals.{WithGoal}
use Rattle.desk_implication.specs.Conclusions.{checked_text, concludes_text}

-- yes exactly where the certificate concludes the goal, which is then implied; else no, with both
abbrev pub Checked : Schema → Tree → Dependency → Allowed
Checked schema tree goal response =
    (Proves (theory_in schema) tree goal × ImpliedBy schema goal
    × Says Yes (checked_text (printed_names_of schema) goal) response)
    ⊎ ((Proves (theory_in schema) tree goal → ⊥)
    × ((concluded : Dependency) × Proves (theory_in schema) tree concluded
    × Says No (concludes_text (printed_names_of schema) concluded goal) response))

-- the same of a certificate and the text of a goal
abbrev pub ChecksProof : Schema → Tree → List ℕ → Allowed
ChecksProof schema tree goal = WithGoal schema goal (Checked schema tree)
