-- The laws `reached_lists_are_lossless`, clause by clause.
use Rattle.split_forms.proofs.SplitLemmas.{lists_lossless, lists_short}
use Rattle.split_forms.proofs.laws.reached_lists_are_lossless.Goals as goal

pub returns : goal.returns
returns c = record {
  lossless = λ n ds form schemes not_empty split. lists_lossless n ds form not_empty split schemes;
  short = λ n ds form schemes not_empty split. lists_short n ds form not_empty split schemes;
}
