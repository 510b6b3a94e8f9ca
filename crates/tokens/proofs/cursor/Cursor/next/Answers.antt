-- What is left to prove of `Cursor::next`: what it answers in the cases `End` and `Error`.
use Rattle.std.proofs.Common.{ap}
use Rattle.lexer.specs.Tokens.{Lexed}
use Rattle.tokens.specs.Views.{rest_of}
use Rattle.tokens.proofs.cursor.Cursor.next.Goals as goal

pub returns-in-End : goal.returns-in-End
unfolding rest_of
returns-in-End c = record {
  exact = record {
    marks = ap (λ (l : Lexed). l.marks) c.in-End.ensures.exact;
    stop = ap (λ (l : Lexed). l.stop) c.in-End.ensures.exact;
  };
}

pub returns-in-Error : goal.returns-in-Error
unfolding rest_of
returns-in-Error c = record {
  exact = record {
    by = c.in-Error.stop;
    marks = ap (λ (l : Lexed). l.marks) c.in-Error.ensures.exact;
    stop = ap (λ (l : Lexed). l.stop) c.in-Error.ensures.exact;
    refusal = c.by.ensures.refusal;
  };
}
