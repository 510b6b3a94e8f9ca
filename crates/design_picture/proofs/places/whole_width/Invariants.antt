-- What the loop of `whole_width` keeps, in terms of `whole_width`.
use Rattle.std.proofs.Common.{◌≡◌, ◌+◌, ◌++◌, ◌∷◌, [], ◌==◌, if◌then◌else◌, ℕ, List, take}
use Rattle.std.specs.Prelude.{fold, max, sum_by}
use Rattle.design_picture.specs.declared.places.TablePlace.{TablePlace}
use Rattle.design_picture.proofs.places.whole_width.Given as goal

abbrev pub invariant-loop-place : goal.invariant-loop-place
invariant-loop-place l = l.most ≡ fold (λ most place. max most (place.left + place.width)) 0 (take l.place-index l.places)
