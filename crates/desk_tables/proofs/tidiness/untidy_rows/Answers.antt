-- What is left to prove of `untidy_rows`: that a round of its loop keeps the invariant, by `next_found`.
use Rattle.attr_sets.specs.Sets.{attributes}
use Rattle.schema_model.specs.Schemas.{nullable_of}
use Rattle.desk_tables.proofs.TidyLemmas.{next_found}
use Rattle.desk_tables.proofs.tidiness.untidy_rows.Goals as goal

pub loop-k-preserved : goal.loop-k-preserved
loop-k-preserved c = record {
  found =
      next_found (nullable_of c.args.schema.now) (attributes c.nullable.result) c.args.rows.now c.args.design.now c.loop-k.k _ _ _
      c.first_untidy-first.result c.loop-k-test.true c.nullable.ensures.nullable c.loop-k.invariant.found
      c.in_ok-add_found.ensures.added c.first_untidy-first.ensures.found;
}
