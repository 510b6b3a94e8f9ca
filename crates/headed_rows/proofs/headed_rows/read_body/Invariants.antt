-- What the loop of `read_body` keeps: `within_limit`, `fit` and `taken`; and by what it ends.
use Rattle.std.proofs.Common.{◌≤◌, ◌-◌, ℕ, List, length}
use Rattle.csv_rows.specs.Records.{HasLeft}
use Rattle.headed_rows.specs.Headings.{AreRows}
use Rattle.headed_rows.proofs.HeadingLemmas.{TakesRows}
use Rattle.headed_rows.proofs.headed_rows.read_body.Given as goal

-- the records so far are the rows
abbrev pub invariant-loop-rows : goal.invariant-loop-rows
invariant-loop-rows l = record {
  within_limit : length l.rows ≤ l.most;
  fit : AreRows l.most l.unclosed l.columns l.rows (length l.rows);
  taken : (rs : List (List (List ℕ))) → HasLeft l.fn.reader rs → TakesRows rs l.reader l.rows;
}

abbrev pub decreases-loop-rows : goal.decreases-loop-rows
decreases-loop-rows l = l.most - length l.rows
