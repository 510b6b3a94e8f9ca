-- What the loop of `add_tables` keeps: the statements of the tables so far.
use Rattle.std.proofs.Common.{◌≡◌, ◌++◌, take}
use Rattle.std.specs.List.{flat_map}
use Rattle.ddl_text.specs.Ddl.{table_made}
use Rattle.sql_syntax.specs.Statements.{script_text}
use Rattle.ddl_text.proofs.printing.add_tables.Given as goal

-- the statements so far
abbrev pub invariant-loop-table : goal.invariant-loop-table
invariant-loop-table l = l.text.items ≡ l.fn.text.items ++ flat_map (λ table. script_text (table_made l.schema l.tables table))
    (take l.table-index l.tables)
