-- The laws `queries_are_union_compatible`, clause by clause.
use Rattle.relation_queries.proofs.CompatibleLemmas.{own_values, breaches_even, differences_even}
use Rattle.relation_queries.proofs.laws.queries_are_union_compatible.Goals as goal

pub returns : goal.returns
returns c = record {
  own_values = own_values;
  rules = breaches_even;
  plans = differences_even;
}
