-- What the loop of `numbers_by_leaders` keeps: the rows so far have the numbers that their leaders give.
use Rattle.std.proofs.Common.{◌≡◌, ◌≤◌, ℕ, List, length}
use Rattle.row_groups.specs.Buckets.{AreLeaders}
use Rattle.row_groups.proofs.LeaderLemmas.{LedSoFar}
use Rattle.row_groups.proofs.leaders.numbers_by_leaders.Given as goal

abbrev pub invariant-loop-row : goal.invariant-loop-row
invariant-loop-row l = record {
  one_each : length l.numbers.items ≡ l.row;
  few : l.count ≤ l.row;
  values : (value : ℕ → List ℕ) → AreLeaders value l.leaders → LedSoFar value l.row l.count l.numbers.items;
  pairs : (value : ℕ → ℕ × ℕ) → AreLeaders value l.leaders → LedSoFar value l.row l.count l.numbers.items;
}
