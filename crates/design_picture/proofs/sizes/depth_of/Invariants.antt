-- What the loop of `depth_of` keeps, in terms of `depth_of`.
use Rattle.std.proofs.Common.{◌≡◌, ◌+◌, ◌++◌, ◌∷◌, [], ◌==◌, if◌then◌else◌, ℕ, List, take}
use Rattle.std.specs.Prelude.{fold, max, sum_by}
use Rattle.design_picture.specs.Places.{depth_of}
use Rattle.design_picture.proofs.sizes.depth_of.Given as goal

abbrev pub invariant-loop-j : goal.invariant-loop-j
invariant-loop-j l = l.deepest ≡ depth_of l.before (take l.j-index l.refs)
