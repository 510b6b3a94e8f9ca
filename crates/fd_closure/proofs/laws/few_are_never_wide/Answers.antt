-- The laws `few_are_never_wide`, clause by clause.
use Rattle.fd_closure.proofs.WidthLemmas.{wider, few_never_wide}
use Rattle.fd_closure.proofs.laws.few_are_never_wide.Goals as goal

pub returns : goal.returns
returns c = record {
  part = wider;
  few_left_sides = few_never_wide;
}
