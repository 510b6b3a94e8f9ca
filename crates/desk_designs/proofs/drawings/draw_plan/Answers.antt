-- What is left to prove of `draw_plan`: its clause `response`.
use Rattle.std.proofs.Common.{refl}
use Rattle.plans.specs.Plans.{scheme_sets}
use Rattle.desk_designs.proofs.drawings.draw_plan.Goals as goal

pub returns : goal.returns
returns c = record { response = (scheme_sets c.args.plan.now, refl, c.in_ok-drawing_response.ensures.response) }
