-- What is left to prove of `is_timestamp_text`: that the parts of a text are those of its day and time.
use Rattle.std.proofs.Common.{◌≡◌, ℕ, List, ◌++◌, take, drop, sym, subst, ◌∙◌, arith}
use Rattle.std.proofs.lemmas.Bool.{false≢true}
use Rattle.std.proofs.lemmas.List.{take-append-drop}
use Rattle.column_values.specs.Calendar.{IsDateText, IsTimeText, IsFractionText, IsTimestampText}
use Rattle.column_values.proofs.DigitLemmas.{SameParts}
use Rattle.column_values.proofs.CalendarLemmas.{length-date, timestamp_parts, time_parts, long_rest, timestamp_from}
use Rattle.column_values.proofs.calendar.is_timestamp_text.Goals as goal

pub returns-in_default : goal.returns-in_default
returns-in_default c = record {
  timestamp = (
    (λ h. absurd (false≢true h)),
    (λ (h : IsTimestampText c.args.bytes.now). absurd (c.in_default.ensures.none h.date (h.time ++ h.fraction) (length-date h.date h.is_date) h.text)),
  );
}

pub returns-then-rest-lt8 : goal.returns-then-rest-lt8
returns-then-rest-lt8 c = record {
  timestamp = (
    (λ h. absurd (false≢true h)),
    (λ (h : IsTimestampText c.args.bytes.now).
        let parts : SameParts c.in-Some.date.now c.in-Some.rest.now h.date (h.time ++ h.fraction) =
        timestamp_parts c.args.bytes.now c.in-Some.date.now c.in-Some.rest.now c.in-Some.ensures.counted c.in-Some.ensures.parts h in
        absurd (omega (arith, c.if-rest-lt8.true, long_rest c.args.bytes.now c.in-Some.rest.now h parts.rests))),
  );
}

pub returns-then-not-is_date_text : goal.returns-then-not-is_date_text
returns-then-not-is_date_text c = record {
  timestamp = (
    (λ h. absurd (false≢true h)),
    (λ (h : IsTimestampText c.args.bytes.now).
        let parts : SameParts c.in-Some.date.now c.in-Some.rest.now h.date (h.time ++ h.fraction) =
        timestamp_parts c.args.bytes.now c.in-Some.date.now c.in-Some.rest.now c.in-Some.ensures.counted c.in-Some.ensures.parts h in
        absurd (false≢true (sym c.if-not-is_date_text.true ∙ c.is_date_text.ensures.date.1 (subst IsDateText (sym parts.fronts) h.is_date)))),
  );
}

whole_rest : (rest : List ℕ) → rest ≡ take 8 rest ++ drop 8 rest
whole_rest rest = sym (take-append-drop 8 rest)

pub returns-then-is_time_text : goal.returns-then-is_time_text
returns-then-is_time_text c =
    let time : List ℕ = c.split_at.result.0.now in
    let fraction : List ℕ = c.split_at.result.1.now in
    let rest : c.in-Some.rest.now ≡ time ++ fraction = rw (c.split_at.ensures.front, c.split_at.ensures.back) (whole_rest c.in-Some.rest.now) in
    record {
      timestamp = (
        (λ holds. timestamp_from c.args.bytes.now c.in-Some.date.now c.in-Some.rest.now time fraction c.in-Some.ensures.parts rest
            (c.is_date_text.ensures.date.0 c.if-not-is_date_text.false) (c.is_time_text.ensures.time.0 c.if-is_time_text.true) (c.is_fraction_text.ensures.fraction.0 holds)),
        (λ (h : IsTimestampText c.args.bytes.now).
            let parts : SameParts c.in-Some.date.now c.in-Some.rest.now h.date (h.time ++ h.fraction) =
            timestamp_parts c.args.bytes.now c.in-Some.date.now c.in-Some.rest.now c.in-Some.ensures.counted c.in-Some.ensures.parts h in
            let later : SameParts time fraction h.time h.fraction =
            time_parts c.args.bytes.now time fraction h c.split_at.ensures.front_len (sym rest ∙ parts.rests) in
            c.is_fraction_text.ensures.fraction.1 (subst IsFractionText (sym later.rests) h.is_fraction)),
      );
    }

pub returns-else-is_time_text : goal.returns-else-is_time_text
returns-else-is_time_text c =
    let time : List ℕ = c.split_at.result.0.now in
    let fraction : List ℕ = c.split_at.result.1.now in
    let rest : c.in-Some.rest.now ≡ time ++ fraction = rw (c.split_at.ensures.front, c.split_at.ensures.back) (whole_rest c.in-Some.rest.now) in
    record {
      timestamp = (
        (λ holds. absurd (false≢true (sym c.if-is_time_text.false ∙ holds))),
        (λ (h : IsTimestampText c.args.bytes.now).
            let parts : SameParts c.in-Some.date.now c.in-Some.rest.now h.date (h.time ++ h.fraction) =
            timestamp_parts c.args.bytes.now c.in-Some.date.now c.in-Some.rest.now c.in-Some.ensures.counted c.in-Some.ensures.parts h in
            let later : SameParts time fraction h.time h.fraction =
            time_parts c.args.bytes.now time fraction h c.split_at.ensures.front_len (sym rest ∙ parts.rests) in
            c.is_time_text.ensures.time.1 (subst IsTimeText (sym later.fronts) h.is_time)),
      );
    }
