use Rattle.std.proofs.Common.{◌≡◌, take}
use Rattle.row_store.proofs.rows.take_values.Given as goal

-- the values so far
abbrev pub invariant-loop-i : goal.invariant-loop-i
invariant-loop-i l = record { values : l.values ≡ take l.i l.row }
