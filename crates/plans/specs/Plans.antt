-- The schemes of a `Plan` of the code: for every contract in which one stands. `Desk` does not cite
-- it.
use Rattle.std.specs.Prelude.{◌≡◌, List}
use Rattle.attr_sets.specs.Attributes.{Attributes}
use Rattle.attr_sets.specs.declared.set.AttrSet.{AttrSet}
use Rattle.dep_model.specs.Plans.{schemes_of}
use Rattle.plans.specs.declared.plan.Plan.{Plan}
use Rattle.dep_model.specs.Theories.{Theory}
use Rattle.dep_model.specs.Theories.{width_of}

-- the schemes of a plan, in order
abbrev pub scheme_sets : Plan → List AttrSet
scheme_sets plan = plan.schemes.items

-- the same, as sets of attributes
abbrev pub plan_of : Plan → List Attributes
plan_of plan = schemes_of (scheme_sets plan)

-- the plan is one of the universe of a schema
abbrev pub IsPlanOver : Theory → Plan → Type 0
IsPlanOver theory plan = plan.width ≡ width_of theory
