-- The laws `measures_are_least`, clause by clause.
use Rattle.row_measures.proofs.LawLemmas.{measured_least, removed_are, kept_legal}
use Rattle.std.proofs.Common.{sym, ap, ◌∙◌}
use Rattle.row_measures.specs.declared.breach.Measure.{Measure}
use Rattle.row_measures.proofs.TupleLemmas.{missing_tuples}
use Rattle.removal_laws.specs.Classes.{in_chosen}
use Rattle.removal_laws.proofs.LargestLemmas.{least}
use Rattle.row_measures.proofs.laws.measures_are_least.Goals as goal

pub returns : goal.returns
returns _ = record {
  functional = measured_least;
  multivalued = λ n x y r m x_in y_in over is.
      let found = missing_tuples n x y r is.0 over x_in y_in in
      (found.0, found.1, found.2 ∙ sym (ap (λ (q : Measure). q.amount) is.1));
  removed = λ n x y r rows are.
      let c = are.0 in
      (in_chosen c.groups c.classes c.chosen, least x y r c.groups c.classes c.chosen c.by_left c.by_both c.largest.largest n, removed_are x y r c rows are.1);
  legal = λ n ds r kept over are functional. kept_legal ds r kept are n over functional;
}
