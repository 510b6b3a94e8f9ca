-- What the loop of `misses_nothing` keeps: `there`.
use Rattle.std.proofs.Common.{◌≡◌, take, true}
use Rattle.std.specs.List.{list_all}
use Rattle.row_store.specs.Rows.{row_at}
use Rattle.file_references.specs.Columns.{is_there}
use Rattle.file_references.proofs.promising.misses_nothing.Given as goal

-- the values so far are there
abbrev pub invariant-loop-position : goal.invariant-loop-position
invariant-loop-position l = record { there : list_all is_there (take l.position (row_at l.rows l.row)) ≡ true }
