-- What is left to prove of `Cursor::end`: its clauses `ok` and `err`, by `WordLemmas`.
use Rattle.std.proofs.Common.{◌∙◌, refl}
use Rattle.tokens.proofs.WordLemmas.{end_ended, end_stopped, end_led}
use Rattle.tokens.proofs.cursor.Cursor.end.Goals as goal

pub returns-in-End-clause-ok : goal.returns-in-End-clause-ok
returns-in-End-clause-ok c = end_ended _ c.in-End.ensures.exact

pub returns-in-Refusal-clause-err : goal.returns-in-Refusal-clause-err
returns-in-Refusal-clause-err c = end_stopped _ _ c.in-Refusal.ensures.exact

pub returns-in-Token-clause-err : goal.returns-in-Token-clause-err
returns-in-Token-clause-err c =
    end_led _ _ _ c.in-Token.ensures.exact.led
    ∙ rw c.refusal_of_token.ensures.refusal refl
