-- The laws `one_wide_split`, clause by clause.
use Rattle.wide_bcnf.proofs.SplitLemmas.{split_is_lossless}
use Rattle.wide_bcnf.proofs.OneSplit.{one_split}
use Rattle.wide_bcnf.proofs.laws.one_wide_split.Goals as goal

pub returns : goal.returns
returns c = record {
  lossless = split_is_lossless;
  unique = one_split;
}
