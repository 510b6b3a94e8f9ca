-- The laws `pairs_decide_the_form`, clause by clause.
use Rattle.wide_bcnf.proofs.PairLemmas.{without_pair_bcnf, pair_of_part}
use Rattle.wide_bcnf.proofs.laws.pairs_decide_the_form.Goals as goal

pub returns : goal.returns
returns c = record {
  without = without_pair_bcnf;
  part = pair_of_part;
}
