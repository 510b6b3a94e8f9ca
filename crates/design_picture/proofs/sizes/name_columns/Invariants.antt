-- What the loop of `name_columns` keeps, in terms of `name_columns`.
use Rattle.std.proofs.Common.{◌≡◌, ◌+◌, ◌++◌, ◌∷◌, [], ◌==◌, if◌then◌else◌, ℕ, List, take}
use Rattle.std.specs.Prelude.{fold, max, sum_by}
use Rattle.design_picture.specs.Places.{name_columns}
use Rattle.design_picture.proofs.sizes.name_columns.Given as goal

abbrev pub invariant-loop-b : goal.invariant-loop-b
invariant-loop-b l = l.columns ≡ name_columns (take l.b-index l.name)
