-- The laws `notions_are_unique`, clause by clause.
use Rattle.dep_model.proofs.KeyLemmas.{one_greedy}
use Rattle.implication_laws.proofs.OneKey.{one_keys}
use Rattle.implication_laws.proofs.OneCover.{one_cover, one_whole_cover, one_canonical_cover}
use Rattle.implication_laws.proofs.OneBasis.{one_closed, one_blocks, one_refuted}
use Rattle.implication_laws.proofs.OneList.{one_differences, one_rules}
use Rattle.implication_laws.proofs.uniqueness.notions_are_unique.Goals as goal

pub returns : goal.returns
returns c = record {
  greedy_key = λ n ds scheme one other low. one_greedy n n ds scheme one other low;
  keys = one_keys;
  cover = one_cover;
  whole_cover = one_whole_cover;
  canonical_cover = one_canonical_cover;
  closed = one_closed;
  blocks = one_blocks;
  refutation = one_refuted;
  differences = one_differences;
  rules = one_rules;
}
