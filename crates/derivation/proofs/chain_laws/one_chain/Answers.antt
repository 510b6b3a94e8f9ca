-- The laws `one_chain`, clause by clause.
use Rattle.derivation.proofs.ChainLemmas.{chain_one, chain_proves, chain_obeyed, chain_small}
use Rattle.derivation.proofs.chain_laws.one_chain.Goals as goal

pub returns : goal.returns
returns c = record {
  unique = chain_one;
  proves = chain_proves;
  functional = chain_obeyed;
  nodes = λ s x y t chain. (chain_small s x y t chain).0;
  levels = λ s x y t chain. (chain_small s x y t chain).1;
}
