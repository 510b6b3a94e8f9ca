-- What the loop of `untidy_rows` keeps: `found`.
use Rattle.std.proofs.Common.{take}
use Rattle.optional_tables.specs.LookUps.{empty_values}
use Rattle.schema_model.specs.Schemas.{nullable_of}
use Rattle.desk_tables.specs.Tidiness.{AreUntidy}
use Rattle.desk_tables.proofs.tidiness.untidy_rows.Given as goal

-- what is found for the tables so far
abbrev pub invariant-loop-k : goal.invariant-loop-k
invariant-loop-k l = record {
  found : AreUntidy (empty_values (nullable_of l.schema)) l.rows (take l.k l.design) l.found.items;
}
