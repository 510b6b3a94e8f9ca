-- What is left to prove of `are_zeros`: that zeros are the digits of the number 0.
use Rattle.std.proofs.Common.{length, sym, ap, ◌∙◌}
use Rattle.std.proofs.lemmas.Bool.{eqb-true}
use Rattle.column_values.proofs.DigitLemmas.{length-in_digits}
use Rattle.column_values.proofs.DecimalLemmas.{zeros_from, zeros_to}
use Rattle.column_values.proofs.decimals.are_zeros.Goals as goal

pub returns-then-bytes-count : goal.returns-then-bytes-count
returns-then-bytes-count c = record {
  zeros = (
    (λ holds. zeros_from c.args.bytes.now c.args.count c.if-bytes-count.true (sym c.are_all_zero.ensures.zeros ∙ holds)),
    (λ e. c.are_all_zero.ensures.zeros ∙ zeros_to c.args.bytes.now c.args.count e),
  );
}

pub returns-else-bytes-count : goal.returns-else-bytes-count
returns-else-bytes-count c = record {
  zeros = (
    (λ holds. absurd (c.if-bytes-count.false (eqb-true (length c.args.bytes.now) c.args.count holds))),
    (λ e. absurd (c.if-bytes-count.false (ap length e ∙ length-in_digits c.args.count 0))),
  );
}
