-- What is left to prove of `is_date_text`: that the numbers of a text are those of its day.
use Rattle.column_values.proofs.CalendarLemmas.{date_from, day_of_date}
use Rattle.column_values.proofs.calendar.is_date_text.Goals as goal

pub returns-in-Some : goal.returns-in-Some
returns-in-Some c = record {
  date = (
    (λ holds. date_from c.args.bytes.now c.in-Some.year c.in-Some.month c.in-Some.day c.in-Some.ensures.text (c.is_day.ensures.day.0 holds)),
    (λ h. c.is_day.ensures.day.1 (day_of_date c.args.bytes.now c.in-Some.year c.in-Some.month c.in-Some.day c.in-Some.ensures.first c.in-Some.ensures.second c.in-Some.ensures.third c.in-Some.ensures.text h)),
  );
}
