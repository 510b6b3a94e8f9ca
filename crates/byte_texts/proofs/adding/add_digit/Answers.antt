-- What is left to prove of `add_digit`: its clause `added`.
use Rattle.std.proofs.Common.{◌++◌, ◌∙◌, ap, sym}
use Rattle.std.proofs.lemmas.Fmt.{decimal_digit}
use Rattle.byte_texts.proofs.adding.add_digit.Goals as goal

pub returns : goal.returns
returns c = record {
  added = c.in_ok-push.ensures.items ∙ ap (λ t. c.args.text.now.items ++ t) (sym (decimal_digit c.args.digit c.requires.digit));
}
