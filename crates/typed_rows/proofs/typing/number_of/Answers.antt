-- What is left to prove of `number_of`: that the number so far is that of the digits so far, and small.
use Rattle.std.proofs.Common.{ℕ, ◌+◌, ◌*◌, ◌-◌, get_or, sym, ap, ◌∙◌, arith}
use Rattle.typed_rows.proofs.NumeralLemmas.{front_small, front_more, digit_from}
use Rattle.typed_rows.proofs.typing.number_of.Goals as goal

pub overflow_mul-number : goal.overflow_mul-number
overflow_mul-number c =
    omega (arith, c.loop-b.invariant, front_more c.args.digits.now c.loop-b.b-index c.requires.numeral c.loop-b-test.true, front_small c.args.digits.now (c.loop-b.b-index + 1) c.requires.numeral)

pub overflow_sub-number : goal.overflow_sub-number
overflow_sub-number c = digit_from c.args.digits.now c.loop-b.b-index c.requires.numeral c.loop-b-test.true

pub overflow_add-number : goal.overflow_add-number
overflow_add-number c =
    omega (arith, c.loop-b.invariant, front_more c.args.digits.now c.loop-b.b-index c.requires.numeral c.loop-b-test.true, front_small c.args.digits.now (c.loop-b.b-index + 1) c.requires.numeral)

pub loop-b-preserved : goal.loop-b-preserved
loop-b-preserved c =
    ap (λ (n : ℕ). n * 10 + (get_or c.args.digits.now c.loop-b.b-index 0 - 48)) c.loop-b.invariant
    ∙ sym (front_more c.args.digits.now c.loop-b.b-index c.requires.numeral c.loop-b-test.true)
