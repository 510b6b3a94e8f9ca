-- What the loop of `add_references` keeps, in terms of `references_to`.
use Rattle.std.proofs.Common.{◌≡◌, ◌+◌, ◌++◌, ◌∷◌, [], ◌==◌, if◌then◌else◌, ℕ, List, take}
use Rattle.std.specs.Prelude.{fold, max, sum_by}
use Rattle.design_picture.specs.Picture.{references_to}
use Rattle.design_picture.proofs.lines.add_references.Given as goal

abbrev pub invariant-loop-j : goal.invariant-loop-j
invariant-loop-j l = l.text.items ≡ l.fn.text.items ++ references_to l.tables l.places l.table l.place (take l.j-index l.refs)
