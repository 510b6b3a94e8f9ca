-- The laws `exhibits_are_exact`, clause by clause.
use Rattle.armstrong_rel.proofs.ExactLemmas.{tuples_for_armstrong}
use Rattle.armstrong_rel.proofs.OneExhibit.{exhibit_same}
use Rattle.armstrong_rel.proofs.laws.exhibits_are_exact.Goals as goal

pub returns : goal.returns
returns c = record {
  exact = tuples_for_armstrong;
  unique = exhibit_same;
}
