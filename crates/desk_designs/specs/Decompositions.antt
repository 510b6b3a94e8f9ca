-- Decompositions in a normal form: for `split`, and for every command that takes a normal form.
use Rattle.std.specs.Prelude.{◌⊎◌, ℕ, List, ◌++◌, codes, All, length, ◌≤◌}
use Rattle.attr_sets.specs.Attributes.{Attributes}
use Rattle.attr_sets.specs.declared.set.AttrSet.{AttrSet}
use Rattle.dep_model.specs.Forms.{IsBcnf}
use Rattle.dep_model.specs.Plans.{schemes_of}
use Rattle.dep_model.specs.Projections.{IsLossless}
use Rattle.schema_model.specs.Schemas.{width_of, theory_of}
use Rattle.schema_model.specs.Schemas.{Schema}
use Rattle.schema_printer.specs.Spelling.{printed_names_of}
use Rattle.dep_model.specs.declared.form.Form.{Form}
use Rattle.dep_model.specs.declared.form.Form.TheVariants.{Third, Bcnf, Fourth}
use Rattle.normal_forms.specs.Chosen.{IsInForm}
use Rattle.plan_printer.specs.Printing.{plan_text}
use Rattle.split_forms.specs.Refusals.{IsWithinLimits}
use Rattle.split_forms.specs.Splitting.{IsSplitPlan, IsTooWideAt, HasTooManySchemes}
use Rattle.wide_bcnf.specs.WideSplits.{IsWideSplitPlan}
use Rattle.desk_designs.specs.declared.decomposition.TheConstants.{MOST_SPLIT_SCHEMES}
use Rattle.desk_responses.specs.declared.status.Status.TheVariants.{Yes, Refused}
use Rattle.desk_responses.specs.ResponseValues.{Allowed, Says, With}
use Rattle.desk_responses.specs.Lines.{too_wide_text}
use Rattle.desk_designs.specs.Synthesis.{IsThirdFormPlan}
use Rattle.desk_texts.specs.Texts.{line}

-- ---- texts
abbrev pub too_many_schemes_text : List ℕ
too_many_schemes_text = line (codes "refused: too many schemes")

abbrev pub wide_split_text : List (List ℕ) → List Attributes → List ℕ
wide_split_text names plan = line (codes "# a scheme in form may have been cut") ++ plan_text names plan

-- ---- plans
-- the plan of the splitting, its finished list without contained schemes: no legal relation loses by
-- it, and each scheme is in the form for
-- every left side within it. No list on the way is stuck or has too many schemes
pub record IsSplitInForm (schema : Schema) (form : Form) (plan : List AttrSet) : Type 0 where
  pub split : IsSplitPlan (width_of schema) (theory_of schema) form plan
  pub within_limits : IsWithinLimits (width_of schema) (theory_of schema) form MOST_SPLIT_SCHEMES
  pub lossless : IsLossless (width_of schema) (theory_of schema) (schemes_of plan)
  pub in_form : All (IsInForm (width_of schema) (theory_of schema) form) (schemes_of plan)

-- the plan of a normal form: third form is had by synthesis, the others by splitting
abbrev pub IsPlanInForm : Schema → Form → List AttrSet → Type 0
IsPlanInForm schema Third plan = IsThirdFormPlan schema plan
IsPlanInForm schema Bcnf plan = IsSplitInForm schema Bcnf plan
IsPlanInForm schema Fourth plan = IsSplitInForm schema Fourth plan

-- the splitting comes to a scheme that is too wide to be tested, or to too many schemes
abbrev pub SplitStops : Schema → Form → Allowed
SplitStops schema form response =
    ((scheme : Attributes) × IsTooWideAt (width_of schema) (theory_of schema) form MOST_SPLIT_SCHEMES scheme
    × Says Refused (too_wide_text (printed_names_of schema) scheme) response)
    ⊎ (HasTooManySchemes (width_of schema) (theory_of schema) form MOST_SPLIT_SCHEMES
    × Says Refused too_many_schemes_text response)

-- how the search for a plan in a normal form ends a command
abbrev pub FormStops : Schema → Form → Allowed
FormStops schema Third response = ⊥
FormStops schema Bcnf response = SplitStops schema Bcnf response
FormStops schema Fourth response = SplitStops schema Fourth response

-- a plan in a normal form is found, and then the rest follows
abbrev pub WithPlanInForm : Schema → Form → (List AttrSet → Allowed) → Allowed
WithPlanInForm schema form = With (FormStops schema form) (IsPlanInForm schema form)

-- ---- answers
-- yes, with a plan
abbrev pub ShowsPlan : Schema → List AttrSet → Allowed
ShowsPlan schema plan = Says Yes (plan_text (printed_names_of schema) (schemes_of plan))

-- yes, with the plan of a normal form
abbrev pub Splits : Schema → Form → Allowed
Splits schema form = WithPlanInForm schema form (ShowsPlan schema)

-- a split by pairs: no legal relation loses by it, each scheme is in Boyce-Codd form for every left side
-- within it, and there are no more schemes than attributes
pub record IsWideSplit (schema : Schema) (plan : List AttrSet) : Type 0 where
  pub split : IsWideSplitPlan (width_of schema) (theory_of schema) plan
  pub lossless : IsLossless (width_of schema) (theory_of schema) (schemes_of plan)
  pub bcnf : All (IsBcnf (width_of schema) (theory_of schema)) (schemes_of plan)
  pub within_limit : length plan ≤ width_of schema

-- yes, with such a plan
abbrev pub SplitsWide : Schema → Allowed
SplitsWide schema response =
    (plan : List AttrSet) × IsWideSplit schema plan
    × Says Yes (wide_split_text (printed_names_of schema) (schemes_of plan)) response
