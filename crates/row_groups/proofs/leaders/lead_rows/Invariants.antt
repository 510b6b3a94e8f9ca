-- What the loop of `lead_rows` keeps: the rows so far are led, and no other has changed.
use Rattle.std.proofs.Common.{◌≡◌, ◌≢◌, ◌<◌, ℕ, length}
use Rattle.row_groups.specs.Numberings.{number_at}
use Rattle.row_groups.proofs.leaders.lead_rows.Given as goal

abbrev pub invariant-loop-k : goal.invariant-loop-k
invariant-loop-k l = record {
  count : length l.leaders.items ≡ length l.fn.leaders.items;
  led : (j : ℕ) → j < l.k → number_at l.leaders.items (number_at l.rows j)
      ≡ number_at l.rows (number_at l.firsts (number_at l.numbers j));
  others : (i : ℕ) → ((j : ℕ) → j < l.k → number_at l.rows j ≢ i)
      → number_at l.leaders.items i ≡ number_at l.fn.leaders.items i;
}
