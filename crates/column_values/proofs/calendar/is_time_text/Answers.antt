-- What is left to prove of `is_time_text`: that the numbers of a text are those of its time.
use Rattle.column_values.proofs.CalendarLemmas.{time_from, time_of_text}
use Rattle.column_values.proofs.calendar.is_time_text.Goals as goal

pub returns-in-Some : goal.returns-in-Some
returns-in-Some c = record {
  time = (
    (λ holds. time_from c.args.bytes.now c.in-Some.hour c.in-Some.minute c.in-Some.second c.in-Some.ensures.text (c.is_time.ensures.time.0 holds)),
    (λ h. c.is_time.ensures.time.1 (time_of_text c.args.bytes.now c.in-Some.hour c.in-Some.minute c.in-Some.second c.in-Some.ensures.first c.in-Some.ensures.second c.in-Some.ensures.third c.in-Some.ensures.text h)),
  );
}
