-- What the loop of `top_of` keeps, in terms of `top_of`.
use Rattle.std.proofs.Common.{◌≡◌, ◌+◌, ◌++◌, ◌∷◌, [], ◌==◌, if◌then◌else◌, ℕ, List, take}
use Rattle.std.specs.Prelude.{fold, max, sum_by}
use Rattle.design_picture.specs.Places.{top_of}
use Rattle.design_picture.proofs.places.top_of.Given as goal

abbrev pub invariant-loop-place : goal.invariant-loop-place
invariant-loop-place l = l.top ≡ top_of (take l.place-index l.before) l.depth
