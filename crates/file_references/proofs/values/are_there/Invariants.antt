-- What the loop of `are_there` keeps: `there`.
use Rattle.std.proofs.Common.{◌≡◌, take, true}
use Rattle.std.specs.List.{list_all}
use Rattle.file_references.specs.Columns.{is_there}
use Rattle.table_join.specs.Lent.{lent_values}
use Rattle.file_references.proofs.values.are_there.Given as goal

-- the values so far are there
abbrev pub invariant-loop-value : goal.invariant-loop-value
invariant-loop-value l = record { there : list_all is_there (lent_values (take l.value-index l.values)) ≡ true }
