-- The laws `closed_or_in_a_block`, clause by clause.
use Rattle.dep_basis.proofs.RestLemmas.{block_at, closure_rest, blocks_rest}
use Rattle.dep_basis.proofs.PartLemmas.{parts_two}
use Rattle.dep_basis.proofs.laws.closed_or_in_a_block.Goals as goal

pub returns : goal.returns
returns c = record {
  either = block_at;
  closed = closure_rest;
  blocks = blocks_rest;
  two_parts = parts_two;
}
