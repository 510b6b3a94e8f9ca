-- What the loop of `Rows::of` keeps.
use Rattle.std.proofs.Common.{◌≡◌, take}
use Rattle.row_store.proofs.rows.Rows.of.Given as goal

-- the rows so far
abbrev pub invariant-loop-row : goal.invariant-loop-row
invariant-loop-row l = record { rows : l.made ≡ take l.row-index l.rows }
