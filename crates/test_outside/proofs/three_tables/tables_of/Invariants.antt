-- What the loop of `tables_of` keeps: each table has its rows.
use Rattle.std.proofs.Common.{All}
use Rattle.named_tables.specs.Choices.{HasRows}
use Rattle.test_outside.proofs.three_tables.tables_of.Given as goal

abbrev pub invariant-loop-name : goal.invariant-loop-name
invariant-loop-name l = All (HasRows l.rows) l.tables.items
