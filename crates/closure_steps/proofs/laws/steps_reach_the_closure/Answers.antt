-- The laws `steps_reach_the_closure`, clause by clause.
use Rattle.closure_steps.proofs.StepLemmas.{reached_follows, reached_is_closure, one_list}
use Rattle.closure_steps.proofs.laws.steps_reach_the_closure.Goals as goal

pub returns : goal.returns
returns c = record {
  follows = reached_follows;
  reached = reached_is_closure;
  unique = one_list;
}
