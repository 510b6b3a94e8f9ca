-- The fields of a row one after the other.
use Rattle.std.proofs.Common.{[]}
use Rattle.csv_text.proofs.RowLemmas.{fields_next}
use Rattle.csv_text.proofs.adding.add_fields.Goals as goal

pub loop-i-preserved : goal.loop-i-preserved
loop-i-preserved c =
    fields_next c.args.row.now c.loop-i.i c.value.result.now [] _ _ _ (rw c.len-i-end.ensures.count at c.loop-i-test.true)
    c.value.ensures.value c.loop-i.invariant c.in_ok-add_listed.ensures.added
