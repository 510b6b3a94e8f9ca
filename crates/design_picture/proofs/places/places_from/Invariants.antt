-- What the loop of `places_from` keeps, in terms of `places_from`.
use Rattle.std.proofs.Common.{◌≡◌, ◌+◌, ◌++◌, ◌∷◌, [], ◌==◌, if◌then◌else◌, ℕ, List, take}
use Rattle.std.specs.Prelude.{fold, max, sum_by}
use Rattle.design_picture.specs.Places.{places_from}
use Rattle.design_picture.proofs.places.places_from.Given as goal

abbrev pub invariant-loop-size : goal.invariant-loop-size
invariant-loop-size l = l.places.items ≡ places_from l.all (take l.size-index l.sizes)
