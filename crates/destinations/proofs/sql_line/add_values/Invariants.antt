-- What the loop of `add_values` keeps, in terms of `sql_cells` and `comma_list`.
use Rattle.std.proofs.Common.{◌≡◌, ◌++◌, take}
use Rattle.destinations.specs.Sql.{sql_cells}
use Rattle.sql_syntax.specs.Names.{comma_list}
use Rattle.destinations.proofs.sql_line.add_values.Given as goal

-- the values so far
abbrev pub invariant-loop-i : goal.invariant-loop-i
invariant-loop-i l =
    l.text.items ≡ l.fn.text.items ++ comma_list (λ cell. cell) (take l.i (sql_cells l.nullable l.row))
