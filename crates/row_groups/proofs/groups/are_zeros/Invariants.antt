-- What the loop of `are_zeros` keeps, in terms of `number_at`.
use Rattle.std.proofs.Common.{◌≡◌, ◌<◌, ℕ}
use Rattle.row_groups.specs.Numberings.{number_at}
use Rattle.row_groups.proofs.groups.are_zeros.Given as goal

abbrev pub invariant-loop-group : goal.invariant-loop-group
invariant-loop-group l = record { zeros : (i : ℕ) → i < l.group-index → number_at l.groups i ≡ 0 }
