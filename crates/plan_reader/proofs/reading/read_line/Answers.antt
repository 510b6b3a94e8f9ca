-- What is left to prove of `read_line`: its clauses `ok` and `err`, by `ReadingLemmas`.
use Rattle.std.proofs.Common.{Ok, sym, ap, ◌∙◌}
use Rattle.schema_model.specs.declared.naming.Naming.{Naming}
use Rattle.lexer.specs.declared.mode.Mode.{Mode}
use Rattle.lexer.specs.Tokens.{lex}
use Rattle.plan_grammar.specs.LineTokens.{line_mode}
use Rattle.schema_grammar.specs.Rests.{Rest, rest_from}
use Rattle.tokens.specs.Views.{names_in}
use Rattle.plan_reader.specs.Drafts.{drafted, table_read}
use Rattle.plan_reader.proofs.ReadingLemmas.{read_rest, line_ended, line_stopped, table_refused, table_is_read}
use Rattle.plan_reader.proofs.reading.read_line.Goals as goal

pub returns-in-End-clause-ok : goal.returns-in-End-clause-ok
returns-in-End-clause-ok c =
    ap (λ (r : Rest). read_rest (names_in c.args.names.now) (drafted c.args.draft.now) r) (sym (c.start-start.ensures.whole ∙ ap (λ (m : Mode). rest_from c.args.number 1 (lex m c.args.line.now)) (c.line_mode.ensures.exact ∙ ap (λ (naming : Naming). line_mode naming c.args.line.now) c.naming.ensures.naming)))
    ∙ line_ended _ _ _ c.in-End.ensures.exact

pub returns-in-Refusal-clause-err : goal.returns-in-Refusal-clause-err
returns-in-Refusal-clause-err c =
    ap (λ (r : Rest). read_rest (names_in c.args.names.now) (drafted c.args.draft.now) r) (sym (c.start-start.ensures.whole ∙ ap (λ (m : Mode). rest_from c.args.number 1 (lex m c.args.line.now)) (c.line_mode.ensures.exact ∙ ap (λ (naming : Naming). line_mode naming c.args.line.now) c.naming.ensures.naming)))
    ∙ line_stopped _ _ _ _ c.in-Refusal.ensures.exact

pub returns-in-Err-clause-err : goal.returns-in-Err-clause-err
returns-in-Err-clause-err c =
    ap (λ (r : Rest). read_rest (names_in c.args.names.now) (drafted c.args.draft.now) r) (sym (c.start-start.ensures.whole ∙ ap (λ (m : Mode). rest_from c.args.number 1 (lex m c.args.line.now)) (c.line_mode.ensures.exact ∙ ap (λ (naming : Naming). line_mode naming c.args.line.now) c.naming.ensures.naming)))
    ∙ table_refused (names_in c.args.names.now) (drafted c.args.draft.now) _ _ _ _ c.in-Token.ensures.exact.led (rw (← c.deref.ensures.value) c.in-Err.ensures.err)

pub returns-in_ok-add-in-Ok-clause-ok : goal.returns-in_ok-add-in-Ok-clause-ok
returns-in_ok-add-in-Ok-clause-ok c =
    ap (λ (r : Rest). read_rest (names_in c.args.names.now) (drafted c.args.draft.now) r) (sym (c.start-start.ensures.whole ∙ ap (λ (m : Mode). rest_from c.args.number 1 (lex m c.args.line.now)) (c.line_mode.ensures.exact ∙ ap (λ (naming : Naming). line_mode naming c.args.line.now) c.naming.ensures.naming)))
    ∙ table_is_read (names_in c.args.names.now) (drafted c.args.draft.now) _ _ _ (table_read c.in-Ok.name c.in-Ok.scheme)
    c.in-Token.ensures.exact.led (rw (← c.deref.ensures.value) c.in-Ok.ensures.ok)
    ∙ ap Ok (sym c.in_ok-add-in-Ok.ensures.added)
