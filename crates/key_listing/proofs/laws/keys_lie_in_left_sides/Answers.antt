-- The laws `keys_lie_in_left_sides`, clause by clause.
use Rattle.key_listing.proofs.LeftSideKeys.{keys_by_left_sides, ascend_alike}
use Rattle.dep_model.specs.Theories.{theory_of, universe_of}
use Rattle.fd_closure.proofs.WidthLemmas.{few_never_wide}
use Rattle.key_listing.proofs.laws.keys_lie_in_left_sides.Goals as goal

pub returns : goal.returns
returns c = record {
  keys = λ n ds scheme rest k within_limit within low is. keys_by_left_sides n ds scheme rest within_limit within low is k;
  order = ascend_alike;
  never_refused = λ theory few wide. few_never_wide (theory_of theory) (universe_of theory) few wide.1;
}
