-- Whether a plan keeps the functional dependencies: for `check keeps`.
use Rattle.std.specs.Prelude.{◌≡◌, ◌⊎◌, ℕ, List, ◌∷◌, ◌++◌, Some, codes, slice_get}
use Rattle.std.specs.List.{flat_map}
use Rattle.attr_sets.specs.Attributes.{Attributes}
use Rattle.attr_sets.specs.Sets.{attributes}
use Rattle.csv_text.specs.Rows.{rows_text}
use Rattle.dep_model.specs.Deps.{dependency_of}
use Rattle.dep_model.specs.Preservation.{KeepsDependencies}
use Rattle.dep_model.specs.declared.dep.Dep.{Dep}
use Rattle.schema_model.specs.Schemas.{names_of, width_of, theory_of, deps_of, lines_of}
use Rattle.typed_rows.specs.Shown.{shown_tuples}
use Rattle.schema_model.specs.Schemas.{Schema}
use Rattle.schema_printer.specs.Spelling.{printed_names_of}
use Rattle.preservation.specs.declared.losing.Loss.{Loss}
use Rattle.preservation.specs.Keeping.{LossesOf, ObeysInside}
use Rattle.counterexample_laws.specs.Counterexamples.{IsCounterexample}
use Rattle.desk_responses.specs.declared.status.Status.TheVariants.{Yes, No}
use Rattle.desk_responses.specs.ResponseValues.{Allowed, Says}
use Rattle.desk_responses.specs.Lines.{line_number_text, dep_text}
use Rattle.desk_texts.specs.Texts.{line}

-- ---- texts
abbrev pub kept_text : List ℕ
kept_text = line (codes "every functional dependency is kept")

-- a dependency that is lost, with its line
abbrev pub loss_text : Schema → Loss → List ℕ
loss_text schema loss =
    line (codes "line " ++ line_number_text (slice_get (lines_of schema) loss.dep)
    ++ codes ": " ++ dep_text (printed_names_of schema) (slice_get (deps_of schema) loss.dep) ++ codes " is lost")

-- the two tuples that show a loss
abbrev pub two_tuples_text : Schema → Loss → List ℕ
two_tuples_text schema loss =
    line (codes "shown by")
    ++ rows_text (names_of schema) (shown_tuples schema (attributes loss.agreement))

-- each dependency that is lost, and two tuples that show the first
abbrev pub losses_text : Schema → Loss → List Loss → List ℕ
losses_text schema first more = flat_map (loss_text schema) (first ∷ more) ++ two_tuples_text schema first

-- ---- answers
-- the two tuples that show a loss are, as they are shown, a counterexample: they obey the functional dependencies
-- inside the schemes, and so all that a plan keeps, and break the given dependency that is lost
pub record IsShownLost (schema : Schema) (plan : List Attributes) (loss : Loss) : Type 0 where
  pub lost : Dep
  pub given : slice_get (deps_of schema) loss.dep ≡ Some lost
  pub shown : IsCounterexample schema (ObeysInside (width_of schema) (theory_of schema) plan) (dependency_of lost)
      (shown_tuples schema (attributes loss.agreement))

-- yes exactly where a plan keeps the functional dependencies; else no, with those that it loses, and two tuples
-- that show the first
abbrev pub JudgesKeeping : Schema → List Attributes → Allowed
JudgesKeeping schema plan response =
    (KeepsDependencies (width_of schema) (theory_of schema) plan × Says Yes kept_text response)
    ⊎ ((KeepsDependencies (width_of schema) (theory_of schema) plan → ⊥)
    × ((first : Loss) × (more : List Loss) × LossesOf (width_of schema) (theory_of schema) plan (first ∷ more)
    × IsShownLost schema plan first
    × Says No (losses_text schema first more) response))
