-- What is left to prove of `design_of_plan`: its clause `sound`.
use Rattle.plans.specs.Plans.{scheme_sets}
use Rattle.desk_designs.proofs.designs.design_of_plan.Goals as goal

pub returns : goal.returns
returns c = record {
  sound = record {
    ordered = scheme_sets c.in_ok-ordered.ordered;
    order = rw (c.theory.ensures.theory) at c.in_ok-ordered.ensures.order;
    design = c.in_ok-design.ensures.design;
    keys_hold = c.in_ok-design.ensures.keys_hold;
    other_keys_hold = c.in_ok-design.ensures.other_keys_hold;
    references_hold = c.in_ok-design.ensures.references_hold;
  };
}
