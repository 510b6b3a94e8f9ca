-- What is left to prove of `required_design`: its clause `exit`.
use Rattle.plans.specs.Plans.{scheme_sets}
use Rattle.desk_designs.proofs.missing.required_design.Goals as goal

pub returns-in-Err-clause-exit : goal.returns-in-Err-clause-exit
returns-in-Err-clause-exit c =
    c.in-Err.ensures.exit c.args.names.now (scheme_sets c.args.plan.now) c.in_ok-tables.ensures.sound
