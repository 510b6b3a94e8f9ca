-- What is left to prove of `test_tidy`: its clauses `ok` and `exit`, by `TidyLemmas`.
use Rattle.std.proofs.Common.{◌≡◌, ◌<◌, List, length, ap, sym, subst, ◌∙◌, arith}
use Rattle.std.proofs.lemmas.Bool.Decides.{nat_tests}
use Rattle.optional_tables.specs.LookUps.{empty_values}
use Rattle.schema_model.specs.Schemas.{nullable_of, width_of}
use Rattle.desk_responses.specs.ResponseValues.{Says}
use Rattle.desk_responses.specs.Responses.{response_value}
use Rattle.desk_responses.specs.declared.status.Status.TheVariants.{No}
use Rattle.desk_tables.specs.Tidiness.{untidy_texts}
use Rattle.desk_tables.specs.declared.tidiness.Untidy.{Untidy}
use Rattle.desk_tables.proofs.TidyLemmas.{key_within, no_items, none_found, some_found}
use Rattle.desk_tables.proofs.tidiness.test_tidy.Goals as goal

pub returns-then-is_empty-clause-ok : goal.returns-then-is_empty-clause-ok
returns-then-is_empty-clause-ok c =
    let (each, finds, is) = c.in_ok-found.ensures.found in
    let none : length c.in_ok-found.found.items ≡ 0 = grind (arith, nat_tests, c.is_empty.ensures, c.if-is_empty.true) in
    none_found (empty_values (nullable_of c.args.schema.now)) c.args.rows.now c.args.design.now each finds
    (sym is ∙ no_items c.in_ok-found.found.items none)

pub returns-clause-exit : goal.returns-clause-exit
returns-clause-exit c = λ response exits.
    let s = c.args.schema.now in
    let design = c.args.design.now in
    let found = c.in_ok-found.found.items in
    let (each, finds, is) = c.in_ok-found.ensures.found in
    let some : 0 < length found = grind (arith, nat_tests, c.is_empty.ensures, c.if-is_empty.false) in (
      some_found (empty_values (nullable_of s)) (width_of s) c.args.rows.now design each c.requires.over
          (λ k d l a in_key. c.requires.schemes_within k d l a (key_within s _ (c.requires.keys k d l) a in_key)) finds
          (λ none. absurd (omega (arith, some, ap length (is ∙ none)))),
      (
        found,
        c.in_ok-found.ensures.found,
        subst (λ (all : List Untidy). Says No (untidy_texts s all) (response_value response)) c.deref.ensures.value
            (c.untidy_exit.ensures.says response exits),
      ),
    )
