-- What the loop of `broken_in` keeps: `same`.
use Rattle.std.proofs.Common.{◌≡◌, ◌<◌, ℕ}
use Rattle.row_groups.specs.Interning.{codes_at}
use Rattle.row_groups.specs.Numberings.{number_at}
use Rattle.candidate_search.proofs.pairs.broken_in.Given as goal

-- each row so far has the number of its leader
abbrev pub invariant-loop-second : goal.invariant-loop-second
invariant-loop-second l = record {
  same : (j : ℕ) → j < l.second
      → number_at (codes_at l.codes l.right) (number_at l.level.leaders.items j) ≡ number_at (codes_at l.codes l.right) j;
}
