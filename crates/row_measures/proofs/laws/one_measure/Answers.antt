-- The laws `one_measure`, clause by clause.
use Rattle.row_measures.proofs.LawLemmas.{same_measure, same_parts, same_rows, same_kept}
use Rattle.row_measures.proofs.laws.one_measure.Goals as goal

pub returns : goal.returns
returns c = record {
  measure = same_measure;
  parts = same_parts;
  rows = same_rows;
  kept = same_kept;
}
