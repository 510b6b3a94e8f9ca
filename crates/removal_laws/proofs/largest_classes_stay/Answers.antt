-- The laws `largest_classes_stay`, clause by clause.
use Rattle.removal_laws.proofs.LargestLemmas.{least}
use Rattle.removal_laws.proofs.ChangeLemmas.{least_change}
use Rattle.removal_laws.proofs.largest_classes_stay.Goals as goal

pub returns : goal.returns
returns c = record {
  removal = λ n x y r groups classes chosen by_left by_both are. least x y r groups classes chosen by_left by_both are n;
  change = λ n x y r groups classes chosen over by_left by_both are.
      least_change x y r groups classes chosen by_left by_both are n over;
}
