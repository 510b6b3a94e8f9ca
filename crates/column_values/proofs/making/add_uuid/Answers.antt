-- What is left to prove of `add_uuid`: that its two parts are one text.
use Rattle.std.proofs.Common.{ℕ, List, ◌++◌, ap, ◌∙◌, append_assoc}
use Rattle.std.specs.Prelude.{codes}
use Rattle.column_values.specs.Digits.{in_digits}
use Rattle.column_values.proofs.making.add_uuid.Goals as goal

pub returns : goal.returns
returns c = record {
  added = c.in_ok-add_in_digits.ensures.added
      ∙ ap (λ (front : List ℕ). front ++ in_digits 12 c.args.number) c.in_ok-extend_from_slice.ensures.items
      ∙ append_assoc c.args.bytes.now.items (codes "00000000-0000-0000-0000-") (in_digits 12 c.args.number);
}
