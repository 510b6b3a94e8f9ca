-- Whether a schema implies a goal: for `implies`.
use Rattle.std.specs.Prelude.{◌⊎◌, ℕ, List, ◌++◌}
use Rattle.attr_sets.specs.Attributes.{Attributes}
use Rattle.dep_model.specs.Dependencies.{Dependency}
use Rattle.schema_model.specs.Schemas.{names_of, width_of, theory_of, ImpliedBy, LegalFor, theory_in}
use Rattle.schema_model.specs.Schemas.{Schema}
use Rattle.derivation.specs.declared.deriv.Deriv.{Deriv}
use Rattle.derivation.specs.Derivs.{tree_of}
use Rattle.dep_basis.specs.Decisions.{IsBrokenBy}
use Rattle.basis_proofs.specs.JoinedProofs.{IsProofOf}
use Rattle.basis_proofs.specs.Proofs.{IsChainIfFunctional, IsDirectUnlessChain}
use Rattle.short_proofs.specs.Short.{IsShort}
use Rattle.proof_grammar.specs.Printing.{canonical_certificate}
use Rattle.desk_responses.specs.declared.status.Status.TheVariants.{Yes, No}
use Rattle.desk_responses.specs.ResponseValues.{Allowed, Says}
use Rattle.desk_arguments.specs.Goals.{WithGoal}
use Rattle.desk_texts.specs.Texts.{yes_text, no_text}
use Rattle.typed_rows.specs.Shown.{shown_tuples}
use Rattle.counterexample_laws.specs.Counterexamples.{IsCounterexample}

-- yes exactly where every relation that obeys the schema's dependencies obeys the goal, with a derivation
-- of the goal, which is the functional chain where the functional part alone implies it, and else a direct
-- one, no longer than the listed ones; else no, with two tuples that are, as they are shown, a legal
-- counterexample to the goal
abbrev pub Decided : Schema → Dependency → Allowed
Decided schema goal response =
    (ImpliedBy schema goal
    × ((proof : Deriv) × IsProofOf (theory_in schema) goal (tree_of proof)
    × IsChainIfFunctional (theory_in schema) goal (tree_of proof)
    × (IsDirectUnlessChain (theory_in schema) goal (tree_of proof) × IsShort (theory_in schema) goal (tree_of proof))
    × Says Yes (yes_text ++ canonical_certificate schema (tree_of proof)) response))
    ⊎ ((ImpliedBy schema goal → ⊥)
    × ((agreement : Attributes) × IsBrokenBy (width_of schema) (theory_of schema) goal agreement
    × IsCounterexample schema (LegalFor schema) goal (shown_tuples schema agreement)
    × Says No (no_text (names_of schema) (shown_tuples schema agreement)) response))

-- the same of a goal that is given as a text
abbrev pub DecidesGoal : Schema → List ℕ → Allowed
DecidesGoal schema goal = WithGoal schema goal (Decided schema)
