-- The laws `one_finished_list`, clause by clause.
use Rattle.split_forms.proofs.SplitLemmas.{next_once, one_finished, one_stuck}
use Rattle.split_forms.proofs.laws.one_finished_list.Goals as goal

pub returns : goal.returns
returns c = record {
  successor = λ n ds form schemes a b not_empty split. next_once n ds form not_empty split schemes a b;
  finished = λ n ds form a b not_empty split. one_finished n ds form not_empty split a b;
  stuck = λ n ds form limit scheme other not_empty split. one_stuck n ds form not_empty split limit scheme other;
}
