-- What is left to prove of `number_before`: that there is no number where it gives none.
use Rattle.std.proofs.Common.{ℕ, sym, ap, ◌∙◌}
use Rattle.column_values.specs.Digits.{in_digits}
use Rattle.column_values.proofs.DigitLemmas.{SameParts, same_cut, length-in_digits}
use Rattle.column_values.proofs.digits.number_before.Goals as goal

pub returns-in_default-clause-none : goal.returns-in_default-clause-none
returns-in_default-clause-none c = λ number rest e. c.in_default.ensures.none (in_digits c.args.count number) rest (length-in_digits c.args.count number) e

pub returns-in-None-clause-none : goal.returns-in-None-clause-none
returns-in-None-clause-none c = λ number rest e.
    let parts : SameParts c.in-Some.digits.now c.in-Some.rest.now (in_digits c.args.count number) rest =
    same_cut c.args.separator c.in-Some.digits.now c.in-Some.rest.now (in_digits c.args.count number) rest
    (c.in-Some.ensures.counted ∙ sym (length-in_digits c.args.count number)) (sym c.in-Some.ensures.parts ∙ e) in
    c.in-None.ensures.none number (parts.fronts ∙ ap (λ (count : ℕ). in_digits count number) (sym c.in-Some.ensures.counted))
