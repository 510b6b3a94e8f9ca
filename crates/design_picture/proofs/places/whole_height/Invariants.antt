-- What the loop of `whole_height` keeps, in terms of `whole_height`.
use Rattle.std.proofs.Common.{◌≡◌, ◌+◌, ◌++◌, ◌∷◌, [], ◌==◌, if◌then◌else◌, ℕ, List, take}
use Rattle.std.specs.Prelude.{fold, max, sum_by}
use Rattle.design_picture.specs.declared.places.TablePlace.{TablePlace}
use Rattle.design_picture.proofs.places.whole_height.Given as goal

abbrev pub invariant-loop-place : goal.invariant-loop-place
invariant-loop-place l = l.most ≡ fold (λ most place. max most (place.top + place.height)) 0 (take l.place-index l.places)
