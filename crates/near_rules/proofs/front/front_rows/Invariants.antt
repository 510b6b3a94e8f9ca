-- What the loop of `front_rows` keeps.
use Rattle.std.proofs.Common.{◌≡◌, take}
use Rattle.near_rules.proofs.front.front_rows.Given as goal

-- the rows so far
abbrev pub invariant-loop-i : goal.invariant-loop-i
invariant-loop-i l = l.front ≡ take l.i l.rows
