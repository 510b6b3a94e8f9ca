-- What the loop of `add_label` keeps, in terms of `label_text`.
use Rattle.std.proofs.Common.{◌≡◌, ◌++◌, take}
use Rattle.table_drawing.specs.Drawing.{label_text}
use Rattle.table_drawing.proofs.escapes.add_label.Given as goal

abbrev pub invariant-loop-b : goal.invariant-loop-b
invariant-loop-b l = l.text.items ≡ l.fn.text.items ++ label_text (take l.b-index l.bytes)
