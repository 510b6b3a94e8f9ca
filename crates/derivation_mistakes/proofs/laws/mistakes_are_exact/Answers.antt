-- The laws `mistakes_are_exact`, clause by clause.
use Rattle.std.proofs.Common.{[]}
use Rattle.derivation_mistakes.proofs.MistakenLines.{derives_without_mistakes}
use Rattle.derivation_mistakes.proofs.OneMistake.{one_mistake, right_has_none, one_list}
use Rattle.derivation_mistakes.proofs.laws.mistakes_are_exact.Goals as goal

pub returns : goal.returns
returns c = record {
  one_mistake = λ s before l. (one_mistake s before l, right_has_none s before l);
  one_list = λ s lines one other. one_list s [] lines one other;
  no_mistake = derives_without_mistakes;
}
