-- What is left to prove of `three_numbers`: that there are none where it gives none, by `number_rest`.
use Rattle.std.proofs.Common.{ℕ, ◌≡◌, ◌∷◌, ◌++◌, length, sym, ap, ◌∙◌}
use Rattle.column_values.specs.Digits.{in_digits}
use Rattle.column_values.proofs.DigitLemmas.{number_rest, length-in_digits}
use Rattle.column_values.proofs.digits.three_numbers.Goals as goal

pub returns-in_default-number_before-clause-none : goal.returns-in_default-number_before-clause-none
returns-in_default-number_before-clause-none c = λ x y z e.
    let rest : c.in-Some.rest.now ≡ in_digits 2 y ++ c.args.separator ∷ in_digits 2 z =
    number_rest c.args.separator c.args.count c.in-Some.first x c.in-Some.rest.now (in_digits 2 y ++ c.args.separator ∷ in_digits 2 z)
    (sym c.in-Some.ensures.text ∙ e) in
    c.in_default-number_before.ensures.none y (in_digits 2 z) rest

pub returns-then-digits-ne2-clause-none : goal.returns-then-digits-ne2-clause-none
returns-then-digits-ne2-clause-none c = λ x y z e.
    let rest : c.in-Some.rest.now ≡ in_digits 2 y ++ c.args.separator ∷ in_digits 2 z =
    number_rest c.args.separator c.args.count c.in-Some.first x c.in-Some.rest.now (in_digits 2 y ++ c.args.separator ∷ in_digits 2 z)
    (sym c.in-Some.ensures.text ∙ e) in
    let digits : c.in-Some-number_before.digits.now ≡ in_digits 2 z =
    number_rest c.args.separator 2 c.in-Some-number_before.second y c.in-Some-number_before.digits.now (in_digits 2 z)
    (sym c.in-Some-number_before.ensures.text ∙ rest) in
    absurd (c.if-digits-ne2.true (ap length digits ∙ length-in_digits 2 z))

pub returns-in-None-clause-none : goal.returns-in-None-clause-none
returns-in-None-clause-none c = λ x y z e.
    let rest : c.in-Some.rest.now ≡ in_digits 2 y ++ c.args.separator ∷ in_digits 2 z =
    number_rest c.args.separator c.args.count c.in-Some.first x c.in-Some.rest.now (in_digits 2 y ++ c.args.separator ∷ in_digits 2 z)
    (sym c.in-Some.ensures.text ∙ e) in
    let digits : c.in-Some-number_before.digits.now ≡ in_digits 2 z =
    number_rest c.args.separator 2 c.in-Some-number_before.second y c.in-Some-number_before.digits.now (in_digits 2 z)
    (sym c.in-Some-number_before.ensures.text ∙ rest) in
    c.in-None.ensures.none z (digits ∙ ap (λ (count : ℕ). in_digits count z) (sym (ap length digits ∙ length-in_digits 2 z)))
