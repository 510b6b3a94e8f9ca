-- What is left to prove of `read_schema`: its clauses `err`, `deps`, `ok` and `not_reserved` and
-- what `with_columns` requires.
use Rattle.std.specs.List.{All}
use Rattle.schema_grammar.specs.Words.{is_reserved}
use Rattle.schema_grammar.specs.declared.format.Format.TheVariants as format
use Rattle.std.proofs.Common.{◌≡◌, ◌∙◌, ℕ, List, subst, false, sym, ap, refl, Ok, length, arith}
use Rattle.std.proofs.lemmas.List.{length-map}
use Rattle.dep_model.specs.Deps.{dependency_of, dependencies_of}
use Rattle.dep_model.proofs.FailureLemmas.{refuses_also}
use Rattle.lexer.specs.Lines.{line_texts}
use Rattle.schema_reader.specs.Views.{declarations_of_draft}
use Rattle.schema_grammar.specs.Texts.{read_text, read_opening, declarations_of}
use Rattle.schema_grammar.proofs.RefusalLemmas.{ok_at}
use Rattle.schema_grammar.proofs.SchemaLaws.{schema-law}
use Rattle.schema_grammar.proofs.TextLaws.{schema_refused}
use Rattle.schema_grammar.proofs.SoundLemmas.{IsWhole, opening_is_whole, forms_schema, forms_columns, whole_not_reserved}
use Rattle.schema_reader.proofs.text.read_schema.Goals as goal

pub returns-in-Err-clause-err : goal.returns-in-Err-clause-err
unfolding read_text
returns-in-Err-clause-err c =
    let here = ap (λ text. read_opening 1 (line_texts text)) (sym c.without_mark.ensures.text) in
    refuses_also _ _ c.in-Err.failure (λ refusal refused. schema_refused c.args.text.now refusal (here ∙ refused)) c.in-Err.ensures.err

pub with_columns-requires-clause-schema : goal.with_columns-requires-clause-schema
with_columns-requires-clause-schema c =
    forms_schema (declarations_of_draft c.in-Ok.draft) _ (ok_at IsWhole _ _ c.in-Ok.ensures.ok (opening_is_whole _ _)) refl

pub with_columns-requires-clause-columns : goal.with_columns-requires-clause-columns
with_columns-requires-clause-columns c =
    let whole = ok_at IsWhole _ _ c.in-Ok.ensures.ok (opening_is_whole _ _) in
    forms_columns (declarations_of_draft c.in-Ok.draft) whole

pub returns-clause-deps : goal.returns-clause-deps
returns-clause-deps c =
    let whole = ok_at IsWhole _ _ c.in-Ok.ensures.ok (opening_is_whole _ _) in
    omega (arith, whole.sound.deps_within_limit, length-map c.in-Ok.draft.deps.items dependency_of, ap length c.with_columns.ensures.deps)

pub returns-clause-ok : goal.returns-clause-ok
unfolding read_text
returns-clause-ok c =
    let here = ap (λ text. read_opening 1 (line_texts text)) (sym c.without_mark.ensures.text) in
    let of = c.with_columns.ensures in
    let theory = ap dependencies_of of.deps in
    let made : declarations_of c.with_columns.result ≡ declarations_of_draft c.in-Ok.draft = λ i. record {
      names = of.names i;
      columns = of.columns i;
      deps = theory i;
      lines = of.lines i;
      naming = of.naming i;
      nullable = of.nullable i;
    } in
    (schema-law c.args.text.now (declarations_of c.with_columns.result)).0 (here ∙ c.in-Ok.ensures.ok ∙ ap Ok (sym made))

pub returns-clause-not_reserved : goal.returns-clause-not_reserved
returns-clause-not_reserved c bare =
    let of : List (List ℕ) → Type 0 = λ names. All (λ name. is_reserved format.Plain name ≡ false) names in
    subst of (sym c.with_columns.ensures.names) (whole_not_reserved (declarations_of_draft c.in-Ok.draft) (ok_at IsWhole _ _ c.in-Ok.ensures.ok (opening_is_whole _ _)) (sym c.with_columns.ensures.naming ∙ bare))
