-- What is left to prove of `print_rows`: that a round of its loop keeps the invariant, by
-- `rows_text_next`.
use Rattle.std.proofs.Common.{arith, ◌<◌, length}
use Rattle.csv_rows.proofs.RowLemmas.{rows_text_next}
use Rattle.csv_rows.proofs.printing.print_rows.Goals as goal

pub loop-row-preserved : goal.loop-row-preserved
loop-row-preserved c =
    let within : c.loop-row.row < length c.args.rows.now = omega (arith, c.loop-row-test.true, c.len-row-end.ensures.count) in
    rw (← rows_text_next _ c.args.rows.now c.loop-row.row _ within c.in_ok-take_values.ensures.values)
    (c.in_ok-write_row-2.ensures.row _ c.loop-row.invariant)
