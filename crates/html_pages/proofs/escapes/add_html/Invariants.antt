-- What the loop of `add_html` keeps, in terms of `html_text`.
use Rattle.std.proofs.Common.{◌≡◌, ◌++◌, take}
use Rattle.html_pages.specs.Escapes.{html_text}
use Rattle.html_pages.proofs.escapes.add_html.Given as goal

abbrev pub invariant-loop-b : goal.invariant-loop-b
invariant-loop-b l = l.text.items ≡ l.fn.text.items ++ html_text (take l.b-index l.bytes)
