-- What is left to prove of `Plan::new`: the invariant of its type, by `plan_are_schemes`.
use Rattle.std.proofs.Common.{sym, subst}
use Rattle.std.specs.Prelude.{ℕ}
use Rattle.plans.proofs.PlanLemmas.{plan_are_schemes}
use Rattle.plans.specs.Schemes.{AreSchemes}
use Rattle.plans.proofs.plan.Plan.new.Goals as goal

pub invariant_of-result : goal.invariant_of-result
invariant_of-result c = record { valid = subst (λ (n : ℕ). AreSchemes n c.args.schemes.items) (sym c.width.ensures.count) (plan_are_schemes _ c.args.schemes.items c.requires.plan) }
