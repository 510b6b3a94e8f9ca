-- The laws `one_block`, clause by clause.
use Rattle.dep_basis.proofs.OneBlock.{block_is_rest, agreement_is_closure}
use Rattle.dep_basis.proofs.laws.one_block.Goals as goal

pub returns : goal.returns
returns c = record {
  block = block_is_rest;
  agreement = agreement_is_closure;
}
