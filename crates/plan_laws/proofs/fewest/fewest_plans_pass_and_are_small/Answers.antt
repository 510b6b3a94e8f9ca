-- The laws `fewest_plans_pass_and_are_small`, clause by clause.
use Rattle.plan_laws.proofs.FewestPlans.{fewest_third, fewest_second, fewest_join, fewest_keeps, no_more_than_synthesis, one_more_than_designs}
use Rattle.plan_laws.proofs.fewest.fewest_plans_pass_and_are_small.Goals as goal

pub returns : goal.returns
returns c = record {
  third = fewest_third;
  second = fewest_second;
  join = fewest_join;
  keeps = fewest_keeps;
  synthesis = no_more_than_synthesis;
  designs = one_more_than_designs;
}
