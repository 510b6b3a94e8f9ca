-- What the loop of `add_ends` keeps: `room` and `ends`.
use Rattle.std.proofs.Common.{◌≡◌, ◌+◌, ◌≤◌, ◌-◌, ◌++◌, length, map, take, vec_capacity}
use Rattle.row_store.proofs.flat_values.add_ends.Given as goal

abbrev pub invariant-loop-end : goal.invariant-loop-end
invariant-loop-end l = record {
  room : length l.ends.items + (length l.more - l.end-index) ≤ vec_capacity l.ends;
  ends : l.ends.items ≡ l.fn.ends.items ++ map (λ end. l.start + end) (take l.end-index l.more);
}
