-- The laws `joins_hold_projections`, clause by clause.
use Rattle.dep_model.proofs.JoinLemmas.{tuple_in_join, project_part}
use Rattle.dep_model.specs.Projections.{projection}
use Rattle.dep_model.proofs.DistinctLemmas.{ordered_projection-same, distinct_tuples-differ}
use Rattle.dep_model.proofs.laws_of_joins.joins_hold_projections.Goals as goal

pub returns : goal.returns
returns c = record {
  join = tuple_in_join;
  part = project_part;
  ordered = λ scheme r. (ordered_projection-same scheme r, distinct_tuples-differ (projection scheme r));
}
