-- A decomposition in third normal form: for `synthesize`, and for every command that takes that
-- form.
use Rattle.std.specs.Prelude.{List, All}
use Rattle.attr_sets.specs.declared.set.AttrSet.{AttrSet}
use Rattle.dep_model.specs.Forms.{IsThird}
use Rattle.dep_model.specs.Plans.{schemes_of}
use Rattle.dep_model.specs.Preservation.{KeepsDependencies}
use Rattle.dep_model.specs.Projections.{IsLossless}
use Rattle.schema_model.specs.Schemas.{width_of, theory_of, nullable_of}
use Rattle.schema_model.specs.Schemas.{Schema}
use Rattle.schema_printer.specs.Spelling.{printed_names_of}
use Rattle.plan_printer.specs.Printing.{plan_text}
use Rattle.synthesis_3nf.specs.GroupedPlans.{IsGroupedPlan}
use Rattle.desk_responses.specs.declared.status.Status.TheVariants.{Yes}
use Rattle.desk_responses.specs.ResponseValues.{Allowed, Says}

-- the cover's groups: no legal relation loses by it, each scheme is in third normal form for every left
-- side within it, and it keeps the functional dependencies
pub record IsThirdFormPlan (schema : Schema) (plan : List AttrSet) : Type 0 where
  pub grouped : IsGroupedPlan (width_of schema) (theory_of schema) (nullable_of schema) plan
  pub lossless : IsLossless (width_of schema) (theory_of schema) (schemes_of plan)
  pub third : All (IsThird (width_of schema) (theory_of schema)) (schemes_of plan)
  pub keeps : KeepsDependencies (width_of schema) (theory_of schema) (schemes_of plan)

-- yes, with such a plan
abbrev pub Synthesizes : Schema → Allowed
Synthesizes schema response =
    (plan : List AttrSet) × IsThirdFormPlan schema plan
    × Says Yes (plan_text (printed_names_of schema) (schemes_of plan)) response
