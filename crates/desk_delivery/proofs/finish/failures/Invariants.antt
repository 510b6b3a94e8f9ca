-- What the loop of `failures` keeps: `lines`, `short` and `has_room`.
use Rattle.std.proofs.Common.{◌≡◌, ◌≤◌, ◌++◌, ◌+◌, ◌*◌, length, drop}
use Rattle.std.specs.Prelude.{vec_capacity}
use Rattle.desk_delivery.specs.declared.finish.TheConstants.{LINE}
use Rattle.desk_delivery.specs.Outcomes.{failures_text}
use Rattle.desk_delivery.proofs.finish.failures.Given as goal

-- what the ends so far said, and the rest will say; each took at most a line of the room
abbrev pub invariant-loop-i : goal.invariant-loop-i
invariant-loop-i l = record {
  lines : l.text.items ++ failures_text (l.i + 1) (drop l.i l.ends) ≡ failures_text 1 l.ends;
  short : length l.text.items ≤ l.i * LINE;
  has_room : length l.ends * LINE ≤ vec_capacity l.text;
}
