-- The laws `small_relations_obey`, clause by clause.
use Rattle.dep_model.proofs.LawLemmas.{no_tuple_obeys, one_tuple_obeys}
use Rattle.dep_model.proofs.laws.small_relations_obey.Goals as goal

pub returns : goal.returns
returns c = record {
  none = λ n d. no_tuple_obeys n d;
  one = λ n d t. one_tuple_obeys n d t;
}
