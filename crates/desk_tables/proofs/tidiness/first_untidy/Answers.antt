-- What is left to prove of `first_untidy`: its clause `found`, by `TidyLemmas`.
use Rattle.std.proofs.Common.{sym, arith}
use Rattle.attr_sets.specs.Sets.{attributes}
use Rattle.optional_tables.specs.LookUps.{empty_values}
use Rattle.desk_tables.proofs.TidyLemmas.{all_tidy, filled_is_tidy, rows_tidy}
use Rattle.desk_tables.proofs.tidiness.first_untidy.Goals as goal

pub returns-then-not-is_optional : goal.returns-then-not-is_optional
returns-then-not-is_optional c = record {
  found = filled_is_tidy (attributes c.args.nullable) c.args.table c.args.rows.now (sym c.if-not-is_optional.ensures.optional);
}

pub returns-in-Some : goal.returns-in-Some
returns-in-Some c = record {
  found = record {
    index = c.loop-row.row;
    number = c.in-Some.ensures.found.0;
    within = omega (arith, c.loop-row-test.true, c.len-row-end.ensures.count);
    untidy = c.in-Some.ensures.found.1;
    earlier =
        rows_tidy (empty_values (attributes c.args.nullable)) c.args.table c.args.rows.now c.loop-row.row
        (omega (arith, c.loop-row-test.true, c.len-row-end.ensures.count)) c.loop-row.invariant.tidy;
  };
}

pub returns : goal.returns
returns c = record {
  found =
      all_tidy (empty_values (attributes c.args.nullable)) c.args.table c.args.rows.now c.loop-row.row
      (omega (arith, c.loop-row-test.false, c.len-row-end.ensures.count)) c.loop-row.invariant.tidy;
}
