-- What the loop of `measure_tables` keeps, in terms of `sizes_of`.
use Rattle.std.proofs.Common.{◌≡◌, ◌+◌, ◌++◌, ◌∷◌, [], ◌==◌, if◌then◌else◌, ℕ, List, take}
use Rattle.std.specs.Prelude.{fold, max, sum_by}
use Rattle.design_picture.specs.Places.{sizes_of}
use Rattle.design_picture.proofs.sizes.measure_tables.Given as goal

abbrev pub invariant-loop-table : goal.invariant-loop-table
invariant-loop-table l = l.sizes.items ≡ sizes_of l.schema (take l.table-index l.tables)
