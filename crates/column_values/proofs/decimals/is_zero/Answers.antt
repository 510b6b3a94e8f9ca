-- What is left to prove of `is_zero`: that `0` stands before the point.
use Rattle.std.proofs.Common.{ℕ, List, ◌∷◌, sym, ap, ◌∙◌}
use Rattle.std.proofs.lemmas.Bool.{false≢true}
use Rattle.column_values.specs.Decimals.{point_and_digits}
use Rattle.column_values.proofs.DecimalLemmas.{zero_text_is, same_rest}
use Rattle.column_values.proofs.decimals.is_zero.Goals as goal

pub returns-in-Some : goal.returns-in-Some
returns-in-Some c = record {
  zero = (
    (λ holds. c.in-Some.ensures.rest ∙ ap (λ (rest : List ℕ). 48 ∷ rest) (c.are_point_and_zeros.ensures.zeros.0 holds) ∙ sym (zero_text_is c.args.scale)),
    (λ e. c.are_point_and_zeros.ensures.zeros.1
        (same_rest c.args.bytes.now c.in-Some.rest.now (point_and_digits c.args.scale 0) 48 c.in-Some.ensures.rest (e ∙ zero_text_is c.args.scale))),
  );
}

pub returns-in-None : goal.returns-in-None
returns-in-None c = record {
  zero = (
    (λ h. absurd (false≢true h)),
    (λ e. absurd (c.in-None.ensures.none (point_and_digits c.args.scale 0) (e ∙ zero_text_is c.args.scale))),
  );
}
