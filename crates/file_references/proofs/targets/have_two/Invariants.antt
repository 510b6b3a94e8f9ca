-- What the loop of `have_two` keeps: `same`.
use Rattle.std.proofs.Common.{◌≡◌, ◌<◌, ℕ}
use Rattle.row_store.specs.Rows.{row_at}
use Rattle.file_references.proofs.targets.have_two.Given as goal

-- the rows so far are the first one
abbrev pub invariant-loop-row : goal.invariant-loop-row
invariant-loop-row l = record { same : (j : ℕ) → j < l.row → row_at l.rows 0 ≡ row_at l.rows j }
