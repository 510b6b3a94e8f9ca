-- The laws `queries_are_exact`, clause by clause.
use Rattle.relation_queries.proofs.BreachLemmas.{breaches_tell}
use Rattle.relation_queries.proofs.JoinedLemmas.{values_given, join_given, nothing_left}
use Rattle.relation_queries.proofs.laws.queries_are_exact.Goals as goal

pub returns : goal.returns
returns c = record {
  breaches = breaches_tell;
  projection = values_given;
  join = join_given;
  differences = nothing_left;
}
