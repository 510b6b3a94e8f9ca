-- The laws `measures_have_one_answer`, clause by clause.
use Rattle.desk_laws.proofs.OneMeasure.{one_measured, one_list_of_classes, one_list_by_row, one_kept, one_of_texts}
use Rattle.desk_laws.proofs.one_measure.measures_have_one_answer.Goals as goal

pub returns : goal.returns
returns c = record {
  measure = one_measured;
  classes = one_list_of_classes;
  offending_rows = one_list_by_row;
  kept = one_kept;
  schema_of_texts = one_of_texts;
}
