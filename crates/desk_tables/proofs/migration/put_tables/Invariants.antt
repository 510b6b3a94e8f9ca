-- What the loop of `put_tables` keeps, in terms of `chosen_value` and `table_line`.
use Rattle.std.proofs.Common.{◌≡◌, ◌++◌, take}
use Rattle.std.specs.List.{flat_map}
use Rattle.named_tables.specs.Tables.{chosen_value}
use Rattle.desk_tables.specs.Migrations.{table_line}
use Rattle.desk_tables.proofs.migration.put_tables.Given as goal

abbrev pub invariant-loop-table : goal.invariant-loop-table
invariant-loop-table l = l.text.items ≡ l.fn.text.items ++ flat_map (λ table. table_line l.naming (chosen_value l.tables.rows table)) (take l.table-index l.tables.tables.items)
