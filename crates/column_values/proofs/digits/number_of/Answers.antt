-- What is left to prove of `number_of`: that a round of its loop keeps the invariant, and what it answers
-- at a byte that is no digit.
use Rattle.std.proofs.Common.{get_or, sym, ◌∙◌, arith}
use Rattle.column_values.proofs.DigitLemmas.{in_digits_none, next_fits, next_wide, next_text, no_digit_no_number}
use Rattle.column_values.proofs.digits.number_of.Goals as goal

pub loop-b-init : goal.loop-b-init
loop-b-init c = record { fits = omega arith; text = in_digits_none 0 }

pub overflow_mul-number : goal.overflow_mul-number
overflow_mul-number c =
    let digit = sym c.is_ascii_digit.ensures.value ∙ c.if-not-is_ascii_digit.false in
    omega (arith, next_wide c.loop-b.b-index c.loop-b.number (get_or c.args.digits.now c.loop-b.b-index 0) digit c.loop-b.invariant.fits (omega (arith, c.loop-b-test.true, c.requires.few)))

pub overflow_add-number : goal.overflow_add-number
overflow_add-number c =
    let digit = sym c.is_ascii_digit.ensures.value ∙ c.if-not-is_ascii_digit.false in
    omega (arith, next_wide c.loop-b.b-index c.loop-b.number (get_or c.args.digits.now c.loop-b.b-index 0) digit c.loop-b.invariant.fits (omega (arith, c.loop-b-test.true, c.requires.few)))

pub loop-b-preserved : goal.loop-b-preserved
loop-b-preserved c =
    let digit = sym c.is_ascii_digit.ensures.value ∙ c.if-not-is_ascii_digit.false in
    record {
      fits = next_fits c.loop-b.b-index c.loop-b.number (get_or c.args.digits.now c.loop-b.b-index 0) digit c.loop-b.invariant.fits;
      text = next_text c.args.digits.now c.loop-b.b-index c.loop-b.number c.loop-b-test.true digit c.loop-b.invariant.text;
    }

pub returns-then-not-is_ascii_digit-clause-none : goal.returns-then-not-is_ascii_digit-clause-none
returns-then-not-is_ascii_digit-clause-none c = λ number e. no_digit_no_number c.args.digits.now c.loop-b.b-index number c.loop-b-test.true (sym c.is_ascii_digit.ensures.value ∙ c.if-not-is_ascii_digit.true) e
