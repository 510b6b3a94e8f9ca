-- What is left to prove of `line_length`: what it answers in the cases `Some` and `None`.
use Rattle.std.proofs.Common.{length, sym, arith}
use Rattle.std.proofs.lemmas.Bool.{false_from_ne_true}
use Rattle.std.proofs.lemmas.List.Sums.{position_or_len_is}
use Rattle.lexer.specs.Lines.{is_line_feed}
use Rattle.lexer.proofs.line.line_length.Goals as goal

pub returns-in-Some : goal.returns-in-Some
returns-in-Some c =
    let found = c.in-Some.ensures in
    record {
      length = sym (position_or_len_is is_line_feed c.args.text.now c.in-Some.end 0 (omega (arith, found.0.high))
          (λ k low. false_from_ne_true _ (found.0.before k (omega arith) low)) (λ less. found.1));
    }

pub returns-in-None : goal.returns-in-None
returns-in-None c =
    let text = c.args.text.now in
    record {
      length = sym (position_or_len_is is_line_feed text (length text) 0 (omega arith)
          (λ k low. false_from_ne_true _ (c.in-None.ensures k (omega arith) low)) (λ less. absurd (omega (arith, less))));
    }
