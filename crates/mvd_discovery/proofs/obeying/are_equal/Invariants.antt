-- What the loop of `are_equal` keeps: the numbers so far are equal.
use Rattle.std.proofs.Common.{◌≡◌, ◌<◌, ℕ}
use Rattle.row_groups.specs.Numberings.{number_at}
use Rattle.mvd_discovery.proofs.obeying.are_equal.Given as goal

abbrev pub invariant-loop-j : goal.invariant-loop-j
invariant-loop-j l = record {
  equal : (i : ℕ) → i < l.j → number_at l.one i ≡ number_at l.other i;
}
