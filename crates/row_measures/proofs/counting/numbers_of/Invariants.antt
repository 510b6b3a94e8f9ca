-- What the loop of `numbers_of` keeps: the numbers of the rows so far.
use Rattle.std.proofs.Common.{◌≡◌, map, take}
use Rattle.row_groups.specs.Numberings.{number_at}
use Rattle.row_measures.proofs.counting.numbers_of.Given as goal

abbrev pub invariant-loop-row : goal.invariant-loop-row
invariant-loop-row l = record { numbers : l.those.items ≡ map (number_at l.numbers) (take l.row-index l.rows) }
