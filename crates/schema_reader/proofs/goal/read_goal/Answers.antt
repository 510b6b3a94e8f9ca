-- What is left to prove of `read_goal`: its clauses `ok`, `err` and `within`.
use Rattle.std.proofs.Common.{◌≡◌, ◌∙◌, ap, sym}
use Rattle.dep_model.specs.Dependencies.{IsWithin}
use Rattle.dep_model.specs.Deps.{dependency_of}
use Rattle.schema_model.specs.Schemas.{universe_of, naming_of, names_of}
use Rattle.schema_grammar.specs.declared.format.Format.TheVariants as format
use Rattle.schema_grammar.specs.Diagnostics.{RefusesGoal}
use Rattle.schema_grammar.specs.Grammar.{start}
use Rattle.schema_grammar.specs.Meanings.{MeansGoal}
use Rattle.schema_grammar.specs.Reading.{follow_rest, read_goal}
use Rattle.lexer.specs.Modes as mode
use Rattle.lexer.specs.declared.mode.Mode.{Mode}
use Rattle.lexer.specs.Tokens.{lex}
use Rattle.schema_grammar.specs.Rests.{Rest, rest_from}
use Rattle.schema_grammar.proofs.DiagnosticLaws.{goal_refused}
use Rattle.schema_grammar.proofs.GoalLaws.{goal-law}
use Rattle.schema_grammar.proofs.RefusalLemmas.{ok_map, err_map, ok_whole, err_whole}
use Rattle.schema_grammar.proofs.WithinLemmas.{within_read, follow_within}
use Rattle.tokens.specs.Views.{rest_of}
use Rattle.schema_reader.proofs.goal.read_goal.Goals as goal

pub returns-clause-ok : goal.returns-clause-ok
returns-clause-ok c =
    let naming = naming_of c.args.schema.now in
    let names = names_of c.args.schema.now in
    let here : read_goal naming names c.args.text.now ≡ follow_rest format.Plain names start (rest_of c.start-start.result) =
    ap (λ (r : Rest). follow_rest format.Plain names start r) (sym (c.start-start.ensures.whole ∙ ap (λ (m : Mode). rest_from 1 1 (lex m c.args.text.now)) (c.goal.ensures.mode ∙ ap mode.goal c.naming.ensures.naming))) in
    ok_map _ (λ dep. MeansGoal naming names c.args.text.now (dependency_of dep)) _
    (λ dep. (goal-law naming names c.args.text.now (dependency_of dep)).0) (ok_whole dependency_of _ _ _ here c.follow.ensures.ok)

pub returns-clause-err : goal.returns-clause-err
returns-clause-err c =
    let naming = naming_of c.args.schema.now in
    let names = names_of c.args.schema.now in
    let here : read_goal naming names c.args.text.now ≡ follow_rest format.Plain names start (rest_of c.start-start.result) =
    ap (λ (r : Rest). follow_rest format.Plain names start r) (sym (c.start-start.ensures.whole ∙ ap (λ (m : Mode). rest_from 1 1 (lex m c.args.text.now)) (c.goal.ensures.mode ∙ ap mode.goal c.naming.ensures.naming))) in
    err_map _ (RefusesGoal naming names c.args.text.now) _ (goal_refused naming names c.args.text.now)
    (err_whole _ _ _ here c.follow.ensures.err)

pub returns-clause-within : goal.returns-clause-within
returns-clause-within c =
    within_read (IsWithin (universe_of c.args.schema.now)) dependency_of _ _ c.follow.ensures.ok
    (follow_within _ (names_of c.args.schema.now) _ _ _ _ _ tt)
