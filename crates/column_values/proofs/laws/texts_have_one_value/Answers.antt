-- The laws `texts_have_one_value`, clause by clause.
use Rattle.column_values.proofs.CalendarLemmas.{same_day_text}
use Rattle.column_values.proofs.DecimalLemmas.{same_decimal_text}
use Rattle.column_values.proofs.laws.texts_have_one_value.Goals as goal

pub returns : goal.returns
returns c = record {
  day = λ year month day other_year other_month other_day h g e. same_day_text year month day other_year other_month other_day h g e;
  decimal = λ scale whole fraction other_whole other_fraction w v f g e. same_decimal_text scale whole fraction other_whole other_fraction w v f g e;
}
