-- What is left to prove of `third_form_plan`: its clause `third`, of the schema's own theory.
use Rattle.std.proofs.Common.{Ok, Err}
use Rattle.std.specs.Prelude.{All, IfOk, Result}
use Rattle.dep_model.specs.Forms.{IsThird}
use Rattle.dep_model.specs.Preservation.{KeepsDependencies}
use Rattle.dep_model.specs.Projections.{IsLossless}
use Rattle.dep_model.specs.declared.memory.OutOfMemory.{OutOfMemory}
use Rattle.plans.specs.Plans.{plan_of, scheme_sets}
use Rattle.plans.specs.declared.plan.Plan.{Plan}
use Rattle.schema_model.specs.Schemas.{Schema, nullable_of, theory_of, width_of}
use Rattle.synthesis_3nf.specs.GroupedPlans.{IsGroupedPlan}
use Rattle.desk_designs.specs.Synthesis.{IsThirdFormPlan}
use Rattle.desk_designs.proofs.decomposition.third_form_plan.Goals as goal

third : (s : Schema) (result : Result Plan OutOfMemory)
    → IfOk result (λ plan. IsGroupedPlan (width_of s) (theory_of s) (nullable_of s) (scheme_sets plan))
    → IfOk result (λ plan. IsLossless (width_of s) (theory_of s) (plan_of plan))
    → IfOk result (λ plan. All (IsThird (width_of s) (theory_of s)) (plan_of plan))
    → IfOk result (λ plan. KeepsDependencies (width_of s) (theory_of s) (plan_of plan))
    → IfOk result (λ plan. IsThirdFormPlan s (scheme_sets plan))
third s (Ok plan) grouped lossless in_form keeps = record { grouped = grouped; lossless = lossless; third = in_form; keeps = keeps }
third s (Err failure) grouped lossless in_form keeps = tt

pub returns-clause-third : goal.returns-clause-third
returns-clause-third c =
    third c.args.schema.now c.synthesize.result
    (rw (c.theory.ensures.theory, c.nullable.ensures.nullable) at c.synthesize.ensures.grouped)
    (rw (c.theory.ensures.theory) at c.synthesize.ensures.lossless)
    (rw (c.theory.ensures.theory) at c.synthesize.ensures.third)
    (rw (c.theory.ensures.theory) at c.synthesize.ensures.keeps)
