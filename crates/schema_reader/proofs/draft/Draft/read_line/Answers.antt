-- What is left to prove of `Draft::read_line`: its clauses `ok` and `err` and what it answers by
-- the kind of a line, by `ListLemmas`.
use Rattle.std.proofs.Common.{◌∙◌, sym, ap}
use Rattle.lexer.specs.declared.mode.Mode.{Mode}
use Rattle.lexer.specs.Tokens.{lex}
use Rattle.schema_grammar.specs.Rests.{rest_from}
use Rattle.schema_grammar.proofs.RefusalLemmas.{on_ok_whole, refuses_whole}
use Rattle.schema_reader.proofs.ListLemmas.{line_whole, line_ended, line_stopped, line_names, line_scales, line_types, line_states}
use Rattle.schema_reader.proofs.draft.Draft.read_line.Goals as goal

pub returns-in-End-clause-ok : goal.returns-in-End-clause-ok
returns-in-End-clause-ok c = line_whole _ _ _ _ _ (c.start-start.ensures.whole ∙ ap (λ (m : Mode). rest_from c.args.line 1 (lex m c.args.text.now)) c.line_mode.ensures.exact) ∙ line_ended _ _ _ c.in-End.ensures.exact

pub returns-in-Refusal-clause-err : goal.returns-in-Refusal-clause-err
returns-in-Refusal-clause-err c = line_whole _ _ _ _ _ (c.start-start.ensures.whole ∙ ap (λ (m : Mode). rest_from c.args.line 1 (lex m c.args.text.now)) c.line_mode.ensures.exact) ∙ line_stopped _ _ _ _ c.in-Refusal.ensures.exact

pub returns-in-Names : goal.returns-in-Names
returns-in-Names c =
    let here = line_whole _ _ _ _ _ (c.start-start.ensures.whole ∙ ap (λ (m : Mode). rest_from c.args.line 1 (lex m c.args.text.now)) c.line_mode.ensures.exact) ∙ line_names _ _ _ _ _ _ c.in-Token.ensures.exact.led (sym c.in-Names.ensures.exact) in
    record { ok = on_ok_whole _ _ _ _ here c.list_names.ensures.ok; err = refuses_whole _ _ _ here c.list_names.ensures.err }

pub returns-in-Decimal : goal.returns-in-Decimal
returns-in-Decimal c =
    let here = line_whole _ _ _ _ _ (c.start-start.ensures.whole ∙ ap (λ (m : Mode). rest_from c.args.line 1 (lex m c.args.text.now)) c.line_mode.ensures.exact) ∙ line_scales _ _ _ _ _ c.in-Token.ensures.exact.led (sym c.in-Decimal.ensures.exact) in
    record { ok = on_ok_whole _ _ _ _ here c.list_columns.ensures.ok; err = refuses_whole _ _ _ here c.list_columns.ensures.err }

pub returns-in-Other : goal.returns-in-Other
returns-in-Other c =
    let here = line_whole _ _ _ _ _ (c.start-start.ensures.whole ∙ ap (λ (m : Mode). rest_from c.args.line 1 (lex m c.args.text.now)) c.line_mode.ensures.exact) ∙ line_types _ _ _ _ _ c.in-Token.ensures.exact.led (sym c.in-Other.ensures.exact) in
    record { ok = on_ok_whole _ _ _ _ here c.list_columns-in-Other.ensures.ok; err = refuses_whole _ _ _ here c.list_columns-in-Other.ensures.err }

pub returns-in-Dependency : goal.returns-in-Dependency
returns-in-Dependency c =
    let here = line_whole _ _ _ _ _ (c.start-start.ensures.whole ∙ ap (λ (m : Mode). rest_from c.args.line 1 (lex m c.args.text.now)) c.line_mode.ensures.exact) ∙ line_states _ _ _ _ _ c.in-Token.ensures.exact.led (sym c.in-Dependency.ensures.exact) in
    record { ok = on_ok_whole _ _ _ _ here c.read_dependency.ensures.ok; err = refuses_whole _ _ _ here c.read_dependency.ensures.err }
