-- What the loop of `complete_rows` keeps: `complete`.
use Rattle.std.proofs.Common.{◌≡◌, filter, take}
use Rattle.attr_sets.specs.Sets.{attributes}
use Rattle.optional_tables.specs.LookUps.{empty_values}
use Rattle.csv_migrate.proofs.CompleteLemmas.{is_complete_at}
use Rattle.csv_migrate.proofs.complete.complete_rows.Given as goal

-- the complete ones of the numbers so far
abbrev pub invariant-loop-k : goal.invariant-loop-k
invariant-loop-k l = record {
  complete : l.complete.items
      ≡ filter (is_complete_at (empty_values (attributes l.nullable)) (attributes l.key) l.rows) (take l.k l.numbers.items);
}
