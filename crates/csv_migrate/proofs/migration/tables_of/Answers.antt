-- What is left to prove of `tables_of`: its clauses `tables` and `schemes`, and that a round of its loop keeps the
-- invariant, by `MigrationLemmas`.
use Rattle.std.proofs.Common.{List, map, arith, All, sym, ap, subst, ◌∙◌}
use Rattle.std.proofs.lemmas.List.{take_all}
use Rattle.std.proofs.lemmas.List.Elements.{All-push}
use Rattle.named_tables.specs.Choices.{HasRows}
use Rattle.optional_tables.specs.declared.keyed.KeyedScheme.{KeyedScheme}
use Rattle.csv_migrate.specs.Migration.{tables_of_migration}
use Rattle.csv_migrate.proofs.MigrationLemmas.{scheme_in, table_added, scheme_added}
use Rattle.csv_migrate.proofs.migration.tables_of.Goals as goal

pub loop-k-preserved : goal.loop-k-preserved
loop-k-preserved c = record {
  tables =
      table_added c.args.schema.now c.args.names.now c.args.rows.now c.args.design.now c.loop-k.k _ c.loop-k.tables.items _
      c.in_ok-table.table c.loop-k-test.true c.loop-k.invariant.tables c.in_ok-push.ensures.items c.in_ok-table.ensures.value;
  schemes =
      scheme_added c.args.design.now c.loop-k.k _ c.loop-k.tables.items _ c.in_ok-table.table c.loop-k-test.true
      c.loop-k.invariant.schemes c.in_ok-push.ensures.items c.in_ok-table.ensures.scheme;
  even =
      subst (All (HasRows c.args.rows.now)) (sym c.in_ok-push.ensures.items)
      (All-push (HasRows c.args.rows.now) c.loop-k.tables.items c.in_ok-table.table c.loop-k.invariant.even c.in_ok-table.ensures.even);
}

pub returns-clause-tables : goal.returns-clause-tables
returns-clause-tables c =
    c.loop-k.invariant.tables
    ∙ ap (λ (design : List KeyedScheme). tables_of_migration c.args.schema.now c.args.names.now design c.args.rows.now)
    (take_all c.loop-k.k c.args.design.now (omega (arith, c.loop-k-test.false)))

pub returns-clause-schemes : goal.returns-clause-schemes
returns-clause-schemes c =
    c.loop-k.invariant.schemes ∙ ap (map scheme_in) (take_all c.loop-k.k c.args.design.now (omega (arith, c.loop-k-test.false)))
