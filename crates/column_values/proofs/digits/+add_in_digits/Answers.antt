-- What is left to prove of `add_in_digits`: what it adds, by the definition of `in_digits`.
use Rattle.std.proofs.Common.{ℕ, ◌+◌, ◌-◌, ◌/◌, ◌%◌, List, [], ◌∷◌, ◌++◌, sym, ap, ◌∙◌, append-nil, append_assoc, arith}
use Rattle.column_values.specs.Digits.{in_digits}
use Rattle.column_values.proofs.DigitLemmas.{in_digits_none, in_digits_last}
use Rattle.column_values.proofs.digits.+add_in_digits.Goals as goal

pub returns-then-count-eq0 : goal.returns-then-count-eq0
returns-then-count-eq0 t c = record {
  added = sym (append-nil c.args.bytes.now.items)
      ∙ ap (λ (ds : List ℕ). c.args.bytes.now.items ++ ds) (in_digits_none c.args.number)
      ∙ ap (λ (count : ℕ). c.args.bytes.now.items ++ in_digits count c.args.number) (sym c.if-count-eq0.true);
}

pub returns : goal.returns
returns t c = record {
  added = c.in_ok-push.ensures.items
      ∙ ap (λ (front : List ℕ). front ++ (48 + c.args.number % 10) ∷ []) c.in_ok-add_in_digits.ensures.added
      ∙ append_assoc c.args.bytes.now.items (in_digits (c.args.count - 1) (c.args.number / 10)) ((48 + c.args.number % 10) ∷ [])
      ∙ ap (λ (ds : List ℕ). c.args.bytes.now.items ++ ds) (in_digits_last c.args.count c.args.number (omega (arith, c.if-count-eq0.false)));
}
