-- What is left to prove of `open_plan`: its clauses `opens`, by `KindLemmas`, `universe`, `within_limit` and `covers`.
use Rattle.std.proofs.Common.{◌≤◌, length, ap, sym, subst}
use Rattle.plan_printer.specs.NamedPlans.{named_schemes}
use Rattle.plans.specs.Plans.{plan_of, IsPlanOver}
use Rattle.plans.specs.declared.plan.Plan.{Plan}
use Rattle.dep_model.specs.Projections.{Covers}
use Rattle.plans.specs.declared.bounds.TheConstants.{MOST_SCHEMES}
use Rattle.schema_model.specs.Schemas.{width_of, theory_in}
use Rattle.desk_inputs.specs.Plans.{plan_file}
use Rattle.dep_model.proofs.FailureLemmas.{refused_is}
use Rattle.desk_inputs.proofs.KindLemmas.{file_not_loaded, file_read, file_refused}
use Rattle.desk_inputs.proofs.plan.open_plan.Goals as goal

pub returns-in-Ok-read_plan-clause-opens : goal.returns-in-Ok-read_plan-clause-opens
returns-in-Ok-read_plan-clause-opens g c = file_read (plan_file c.args.schema.now) c.in-Ok.ensures.loads c.deref.ensures.value record {
  read = named_schemes c.in-Ok-read_plan.plan;
  means = c.in-Ok-read_plan.ensures.ok;
  schemes = ap plan_of c.in_ok-in_order-in-Ok-read_plan.ensures.plan;
  order = c.in_ok-in_order-in-Ok-read_plan.ensures.order;
}

pub returns-in-Ok-read_plan-clause-universe : goal.returns-in-Ok-read_plan-clause-universe
returns-in-Ok-read_plan-clause-universe g c =
    subst (λ (plan : Plan). IsPlanOver (theory_in c.args.schema.now) plan) (sym c.in_ok-in_order-in-Ok-read_plan.ensures.plan) c.in-Ok-read_plan.ensures.universe

pub returns-in-Ok-read_plan-clause-within_limit : goal.returns-in-Ok-read_plan-clause-within_limit
returns-in-Ok-read_plan-clause-within_limit g c =
    subst (λ (plan : Plan). length (plan_of plan) ≤ MOST_SCHEMES) (sym c.in_ok-in_order-in-Ok-read_plan.ensures.plan) c.in-Ok-read_plan.ensures.ok.schemes_fit

pub returns-in-Ok-read_plan-clause-covers : goal.returns-in-Ok-read_plan-clause-covers
returns-in-Ok-read_plan-clause-covers g c =
    subst (λ (plan : Plan). Covers (width_of c.args.schema.now) (plan_of plan)) (sym c.in_ok-in_order-in-Ok-read_plan.ensures.plan) c.in-Ok-read_plan.ensures.ok.covers

pub returns-in-Err-Refused-clause-opens : goal.returns-in-Err-Refused-clause-opens
returns-in-Err-Refused-clause-opens g c = file_refused (plan_file c.args.schema.now) c.in-Err-Refused.refusal c.in-Ok.ensures.loads c.deref.ensures.value (refused_is _ _ _ c.in-Err-Refused.field-0-is c.in-Err-Refused.ensures.err)
    c.bytes.ensures.bytes (c.with_text.ensures.says _ c.plan_refusal_line.ensures.text)

pub returns-in-Err-clause-opens : goal.returns-in-Err-clause-opens
returns-in-Err-clause-opens g c = file_not_loaded (plan_file c.args.schema.now) c.in-Err.ensures.loads
