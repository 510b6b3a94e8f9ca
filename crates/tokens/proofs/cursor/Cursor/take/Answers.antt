-- What is left to prove of `Cursor::take`: its clauses `err` and `ok`, by `WordLemmas`.
use Rattle.std.proofs.Common.{sym, ap, ◌∙◌, Err}
use Rattle.schema_grammar.specs.declared.refusal.SchemaRefusal.{SchemaRefusal}
use Rattle.tokens.proofs.WordLemmas.{take_ended, take_stopped, take_led}
use Rattle.tokens.proofs.cursor.Cursor.take.Goals as goal

pub returns-in-End-clause-err : goal.returns-in-End-clause-err
returns-in-End-clause-err c =
    take_ended _ _ c.in-End.ensures.exact ∙ ap (λ (e : SchemaRefusal). Err e) (sym c.refusal_of_end.ensures.refusal)

pub returns-in-Refusal-clause-err : goal.returns-in-Refusal-clause-err
returns-in-Refusal-clause-err c = take_stopped _ _ _ c.in-Refusal.ensures.exact

pub returns-in-Token-clause-ok : goal.returns-in-Token-clause-ok
returns-in-Token-clause-ok c = take_led _ _ _ _ c.in-Token.ensures.exact.led
