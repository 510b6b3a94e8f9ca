-- Why a schema implies a goal: for `explain implies`.
use Rattle.std.specs.Prelude.{◌≡◌, ◌⊎◌, ◌≤◌, ℕ, List, ◌++◌, length, All}
use Rattle.dep_model.specs.Dependencies.{Dependency}
use Rattle.schema_model.specs.Schemas.{Schema, names_of, naming_of, ImpliedBy, theory_in}
use Rattle.derivation.specs.declared.deriv.Deriv.{Deriv}
use Rattle.derivation.specs.Trees.{Tree, nodes}
use Rattle.derivation.specs.Derivs.{tree_of}
use Rattle.basis_proofs.specs.JoinedProofs.{IsProofOf}
use Rattle.basis_proofs.specs.Proofs.{IsChainIfFunctional, IsDirectUnlessChain}
use Rattle.short_proofs.specs.Short.{IsShort}
use Rattle.schema_grammar.specs.declared.format.Format.TheVariants as format
use Rattle.schema_grammar.specs.Printed.{IsReadBack}
use Rattle.derivation_grammar.specs.Derivations.{Derives}
use Rattle.short_derivations.specs.Inferences.{Line}
use Rattle.short_derivations.specs.Short.{IsShortDerivation}
use Rattle.derivation_printer.specs.Printing.{derivation_text}
use Rattle.desk_responses.specs.declared.status.Status.TheVariants.{Yes}
use Rattle.desk_responses.specs.ResponseValues.{Allowed, Says}
use Rattle.desk_arguments.specs.Goals.{WithGoal}
use Rattle.desk_texts.specs.Texts.{yes_text}
use Rattle.desk_implication.specs.Implication.{Decided}

-- a tree is a certificate that `implies` may print of a goal
pub record IsCertificateOf (schema : Schema) (goal : Dependency) (t : Tree) : Type 0 where
  pub proves : IsProofOf (theory_in schema) goal t
  pub chain : IsChainIfFunctional (theory_in schema) goal t
  pub direct : IsDirectUnlessChain (theory_in schema) goal t
  pub short : IsShort (theory_in schema) goal t

-- a derivation of a goal: it is short, with no more lines than a certificate that `implies` may print, and
-- where the names of the schema are read back its text after `yes` derives the goal, so that `check derivation`
-- accepts it
pub record IsExplanation (schema : Schema) (goal : Dependency) (lines : List Line) : Type 0 where
  pub short : IsShortDerivation (theory_in schema) goal lines
  pub certificate : Deriv
  pub certifies : IsCertificateOf schema goal (tree_of certificate)
  pub no_longer : length lines ≤ nodes (tree_of certificate)
  pub derives : All (IsReadBack format.Plain (naming_of schema)) (names_of schema)
      → Derives schema (yes_text ++ derivation_text schema lines) goal

-- yes with a derivation where the schema implies the goal, else what `implies` answers
abbrev pub ExplainsGoal : Schema → Dependency → Allowed
ExplainsGoal schema goal response =
    (ImpliedBy schema goal
    × ((lines : List Line) × IsExplanation schema goal lines
    × Says Yes (yes_text ++ derivation_text schema lines) response))
    ⊎ ((ImpliedBy schema goal → ⊥) × Decided schema goal response)

-- the same of a goal that is given as a text
abbrev pub ExplainsImplication : Schema → List ℕ → Allowed
ExplainsImplication schema goal = WithGoal schema goal (ExplainsGoal schema)
