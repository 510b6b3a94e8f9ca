-- The laws `one_conclusion`, clause by clause.
use Rattle.derivation.proofs.ConclusionLemmas.{Proves-one, conclusion_after-proves, conclusion_after-from, conclusion_after-fault}
use Rattle.derivation.proofs.laws.one_conclusion.Goals as goal

pub returns : goal.returns
returns c = record {
  unique = Proves-one;
  proved = λ s before t d. (conclusion_after-proves s before t d, conclusion_after-from s before t d);
  fault = conclusion_after-fault;
}
