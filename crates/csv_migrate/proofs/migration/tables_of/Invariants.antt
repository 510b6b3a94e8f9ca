-- What the loop of `tables_of` keeps: `tables`, `schemes` and `even`.
use Rattle.std.proofs.Common.{◌≡◌, All, map, take}
use Rattle.named_tables.specs.Choices.{HasRows}
use Rattle.named_tables.specs.Tables.{chosen_values}
use Rattle.csv_migrate.specs.Migration.{tables_of_migration, schemes_in}
use Rattle.csv_migrate.proofs.MigrationLemmas.{scheme_in}
use Rattle.csv_migrate.proofs.migration.tables_of.Given as goal

-- the tables so far
abbrev pub invariant-loop-k : goal.invariant-loop-k
invariant-loop-k l = record {
  tables : chosen_values l.rows l.tables.items ≡ tables_of_migration l.schema l.names (take l.k l.design) l.rows;
  schemes : schemes_in l.tables.items ≡ map scheme_in (take l.k l.design);
  even : All (HasRows l.rows) l.tables.items;
}
