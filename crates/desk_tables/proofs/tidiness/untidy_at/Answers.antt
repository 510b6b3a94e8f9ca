-- What is left to prove of `untidy_at`: that a row that misses nothing of the key is tidy.
use Rattle.attr_sets.specs.Sets.{attributes}
use Rattle.optional_tables.specs.LookUps.{empty_values}
use Rattle.row_store.specs.Rows.{row_at}
use Rattle.desk_tables.proofs.TidyLemmas.{nothing_missing}
use Rattle.desk_tables.proofs.tidiness.untidy_at.Goals as goal

pub returns-in-None : goal.returns-in-None
returns-in-None c = record {
  found =
      nothing_missing (empty_values (attributes c.args.nullable)) c.args.table (row_at c.args.rows.now c.args.row)
      c.in-None.ensures.first;
}
