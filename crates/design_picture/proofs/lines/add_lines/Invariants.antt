-- What the loop of `add_lines` keeps, in terms of `texts_below`.
use Rattle.std.proofs.Common.{◌≡◌, ◌+◌, ◌++◌, ◌∷◌, [], ◌==◌, if◌then◌else◌, ℕ, List, take}
use Rattle.std.specs.Prelude.{fold, max, sum_by}
use Rattle.design_picture.specs.Picture.{lines_at, texts_below}
use Rattle.design_picture.proofs.lines.add_lines.Given as goal

abbrev pub invariant-loop-k : goal.invariant-loop-k
invariant-loop-k l = l.text.items ≡ l.fn.text.items ++ texts_below l.k (lines_at l.tables l.places)
