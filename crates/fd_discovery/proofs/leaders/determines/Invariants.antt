-- What the loop of `determines` keeps: `equal`.
use Rattle.std.proofs.Common.{◌≡◌, ◌<◌, ℕ}
use Rattle.row_groups.specs.Numberings.{number_at}
use Rattle.fd_discovery.proofs.leaders.determines.Given as goal

-- the rows so far have their leaders' numbers
abbrev pub invariant-loop-row : goal.invariant-loop-row
invariant-loop-row l = record {
  equal : (i : ℕ) → i < l.row
      → number_at l.codes i ≡ number_at l.codes (number_at l.leaders i);
}
