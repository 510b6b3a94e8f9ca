-- What the loop of `left_of` keeps, in terms of `left_of`.
use Rattle.std.proofs.Common.{◌≡◌, ◌+◌, ◌++◌, ◌∷◌, [], ◌==◌, if◌then◌else◌, ℕ, List, take}
use Rattle.std.specs.Prelude.{fold, max, sum_by}
use Rattle.design_picture.specs.Places.{left_of}
use Rattle.design_picture.proofs.places.left_of.Given as goal

abbrev pub invariant-loop-before : goal.invariant-loop-before
invariant-loop-before l = l.left ≡ left_of l.sizes l.before
