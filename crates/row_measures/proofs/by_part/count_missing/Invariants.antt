-- What the loop of `count_missing` keeps: what the left parts so far lack, and that it is not much.
use Rattle.std.proofs.Common.{◌≡◌, ◌≤◌, ◌*◌, ◌-◌}
use Rattle.row_groups.specs.Numberings.{number_at}
use Rattle.removal_laws.specs.Counts.{total}
use Rattle.row_measures.proofs.by_part.count_missing.Given as goal

abbrev pub invariant-loop-left : goal.invariant-loop-left
invariant-loop-left l = record {
  missing : l.missing ≡ total (λ a. number_at l.wanted (number_at l.left_groups a) - number_at l.present a) l.left;
  fits : l.missing ≤ l.left * 4294967296;
}
