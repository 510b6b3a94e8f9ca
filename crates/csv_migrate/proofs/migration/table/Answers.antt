-- What is left to prove of `table`: that the first rows are there, and its clauses `value` and `even`, by
-- `MigrationLemmas` and `CompleteLemmas`.
use Rattle.std.proofs.Common.{ℕ, sym, subst, arith}
use Rattle.attr_sets.specs.Sets.{attributes}
use Rattle.dep_model.specs.Tuples.{IsOver}
use Rattle.schema_model.specs.Schemas.{names_of, nullable_of, width_of}
use Rattle.optional_tables.specs.LookUps.{empty_values}
use Rattle.row_groups.specs.Interning.{groups_of, firsts_of}
use Rattle.csv_migrate.proofs.ProjectionLemmas.{firsts_there}
use Rattle.csv_migrate.proofs.CompleteLemmas.{chosen_is, complete_firsts, complete_even}
use Rattle.csv_migrate.proofs.MigrationLemmas.{same_table}
use Rattle.csv_migrate.proofs.migration.table.Goals as goal

pub complete_rows-requires : goal.complete_rows-requires
complete_rows-requires c =
    let n = width_of c.args.schema.now in
    let rows = c.args.rows.now in
    record {
      within_limit = omega (arith, c.width.ensures.count, c.args.schema.now.valid.names_within_limit);
      over = subst (λ (m : ℕ). IsOver m rows) (sym c.width.ensures.count) c.requires.over;
      there =
          firsts_there rows (attributes c.args.keyed.scheme) (groups_of c.in_ok-groups.groups) (firsts_of c.in_ok-groups.groups)
          c.into_firsts.result.items (c.in_ok-groups.ensures.groups n rows c.requires.codes)
          (c.in_ok-groups.ensures.firsts n rows c.requires.codes) c.into_firsts.ensures.firsts;
    }

pub returns-clause-even : goal.returns-clause-even
returns-clause-even c =
    let schema = c.args.schema.now in
    let n = width_of schema in
    let rows = c.args.rows.now in
    let missing = empty_values (nullable_of schema) in
    let key = attributes c.args.keyed.key in
    complete_even (names_of schema) missing rows (attributes c.args.keyed.scheme) key
    (groups_of c.in_ok-groups.groups) (firsts_of c.in_ok-groups.groups) c.in_ok-chosen.chosen.items
    c.in_ok-columns.columns.items c.requires.over
    (c.in_ok-groups.ensures.groups n rows c.requires.codes) (c.in_ok-groups.ensures.firsts n rows c.requires.codes)
    (chosen_is key rows _ _ _ _ c.nullable.ensures.nullable c.into_firsts.ensures.firsts c.in_ok-chosen.ensures.complete)
    c.in_ok-columns.ensures.names

pub returns-clause-value : goal.returns-clause-value
returns-clause-value c =
    let schema = c.args.schema.now in
    let n = width_of schema in
    let rows = c.args.rows.now in
    let missing = empty_values (nullable_of schema) in
    let key = attributes c.args.keyed.key in
    same_table _ _ _ _ _ _ _ _ c.name_of_table-name.ensures.name c.in_ok-columns.ensures.names c.in_ok-nullable.ensures.flags
    (complete_firsts n missing rows c.args.keyed (groups_of c.in_ok-groups.groups)
    (firsts_of c.in_ok-groups.groups) c.in_ok-chosen.chosen.items c.requires.over c.requires.key
    (c.in_ok-groups.ensures.groups n rows c.requires.codes) (c.in_ok-groups.ensures.firsts n rows c.requires.codes)
    (chosen_is key rows _ _ _ _ c.nullable.ensures.nullable c.into_firsts.ensures.firsts c.in_ok-chosen.ensures.complete))
