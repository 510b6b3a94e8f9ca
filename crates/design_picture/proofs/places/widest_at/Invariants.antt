-- What the loop of `widest_at` keeps, in terms of `widest_at`.
use Rattle.std.proofs.Common.{◌≡◌, ◌+◌, ◌++◌, ◌∷◌, [], ◌==◌, if◌then◌else◌, ℕ, List, take}
use Rattle.std.specs.Prelude.{fold, max, sum_by}
use Rattle.design_picture.specs.declared.sizes.TableSize.{TableSize}
use Rattle.design_picture.specs.Places.{widest_at}
use Rattle.design_picture.proofs.places.widest_at.Given as goal

abbrev pub invariant-loop-size : goal.invariant-loop-size
invariant-loop-size l = l.most ≡ widest_at (take l.size-index l.sizes) l.depth
