-- What is left to prove of `migrate_rows`: that rows of which a table would lose a value are said.
use Rattle.std.proofs.Common.{List, inl, inr, subst}
use Rattle.optional_tables.specs.declared.keyed.KeyedScheme.{KeyedScheme}
use Rattle.desk_responses.specs.Responses.{response_value}
use Rattle.desk_tables.specs.Tidiness.{LosesValues}
use Rattle.desk_tables.proofs.migration.migrate_rows.Goals as goal

pub returns-in-Err-test_tidy : goal.returns-in-Err-test_tidy
returns-in-Err-test_tidy c = record {
  response = λ response exits. inr (
    c.in-Ok.ensures.ok,
    inl (
      c.in_ok-design.design.items,
      c.in_ok-design.ensures.keyed,
      subst (λ (design : List KeyedScheme). LosesValues c.args.schema.now design c.args.rows (response_value response))
          c.deref.ensures.value (c.in-Err-test_tidy.ensures.exit response exits),
    ),
  );
}
