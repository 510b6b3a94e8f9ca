-- What is left to prove of `Draft::list_columns`: its clauses `ok` and `err`, by `ListLemmas`.
use Rattle.std.proofs.Common.{◌∙◌, refl, sym}
use Rattle.schema_grammar.proofs.RefusalLemmas.{on_ok_whole, refuses_whole}
use Rattle.schema_reader.proofs.ListLemmas.{columns_wanted, columns_stopped, columns_refused, columns_named}
use Rattle.schema_reader.proofs.draft.Draft.list_columns.Goals as goal

pub returns-in-End-clause-err : goal.returns-in-End-clause-err
returns-in-End-clause-err c =
    columns_wanted _ _ _ _ c.in-End.ensures.exact
    ∙ rw (c.refusal_of_end.ensures.refusal, c.wanted_after.ensures.exact) refl

pub returns-in-Refusal-clause-err : goal.returns-in-Refusal-clause-err
returns-in-Refusal-clause-err c = columns_stopped _ _ _ _ _ c.in-Refusal.ensures.exact

pub returns-in-Err-clause-err : goal.returns-in-Err-clause-err
returns-in-Err-clause-err c =
    columns_refused _ _ _ _ _ _ _ c.in-Token.ensures.exact.led (sym c.in-Err.ensures.exact)
    ∙ rw c.refusal_of.ensures.refusal refl

pub returns-in-Ok : goal.returns-in-Ok
returns-in-Ok c =
    let here = columns_named _ _ _ _ _ _ _ c.in-Token.ensures.exact.led (sym c.in-Ok.ensures.exact) in
    record { ok = on_ok_whole _ _ _ _ here c.list_names.ensures.ok; err = refuses_whole _ _ _ here c.list_names.ensures.err }
