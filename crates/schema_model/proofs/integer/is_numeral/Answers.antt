-- What is left to prove of `is_numeral`: what it answers in one case and that a round of its loop
-- keeps the invariant, by `digits_value-take` and `digits_value-next`.
use Rattle.std.proofs.Common.{◌+◌, ◌∙◌, sym, arith, refl}
use Rattle.std.proofs.lemmas.Bool.{false≢true}
use Rattle.schema_model.specs.Integers.{IsPositiveNumeral}
use Rattle.std.specs.Char.{is_ascii_digit}
use Rattle.std.proofs.lemmas.List.Folds.{list_all_more}
use Rattle.schema_model.proofs.NumeralLemmas.{digits_value-take, digits_value-next}
use Rattle.schema_model.proofs.integer.is_numeral.Goals as goal

pub loop-b-preserved : goal.loop-b-preserved
loop-b-preserved c =
    let digit = sym c.is_ascii_digit.ensures.value ∙ c.if-not-is_ascii_digit.false in
    let all = list_all_more is_ascii_digit c.args.digits.now c.loop-b.b-index 0 c.loop-b-test.true in
    let next = digits_value-next c.args.digits.now c.loop-b.b-index c.loop-b-test.true digit in
    record {
      digits = rw (all, c.loop-b.invariant.digits) digit;
      value = rw (next, ← c.loop-b.invariant.value) refl;
      within_limit = c.if-value-most.false;
      most = c.loop-b.invariant.most;
    }

pub returns-then-value-most : goal.returns-then-value-most
returns-then-value-most c =
    let digit = sym c.is_ascii_digit.ensures.value ∙ c.if-not-is_ascii_digit.false in
    let next = digits_value-next c.args.digits.now c.loop-b.b-index c.loop-b-test.true digit in
    let front = digits_value-take c.args.digits.now (c.loop-b.b-index + 1) in
    record { numeral = (λ h. absurd (false≢true h), λ (h : IsPositiveNumeral c.args.most c.args.digits.now). absurd (omega (arith, h.value, next, front, c.loop-b.invariant.value, c.if-value-most.true))) }
