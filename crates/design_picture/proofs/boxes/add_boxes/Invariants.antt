-- What the loop of `add_boxes` keeps, in terms of `texts_below`.
use Rattle.std.proofs.Common.{◌≡◌, ◌+◌, ◌++◌, ◌∷◌, [], ◌==◌, if◌then◌else◌, ℕ, List, take}
use Rattle.std.specs.Prelude.{fold, max, sum_by}
use Rattle.design_picture.specs.Picture.{box_at, texts_below}
use Rattle.design_picture.proofs.boxes.add_boxes.Given as goal

abbrev pub invariant-loop-k : goal.invariant-loop-k
invariant-loop-k l = l.text.items ≡ l.fn.text.items ++ texts_below l.k (box_at l.schema l.tables l.places)
