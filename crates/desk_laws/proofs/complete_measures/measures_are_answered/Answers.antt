-- The laws `measures_are_answered`, clause by clause.
use Rattle.desk_laws.proofs.MeasureLaws.{measure_answered, offences_answered, offences_by_row_answered, kept_answered}
use Rattle.desk_laws.proofs.complete_measures.measures_are_answered.Goals as goal

pub returns : goal.returns
returns c = record {
  measure = measure_answered;
  offences_by_class = offences_answered;
  offences_by_row = offences_by_row_answered;
  kept = kept_answered;
}
