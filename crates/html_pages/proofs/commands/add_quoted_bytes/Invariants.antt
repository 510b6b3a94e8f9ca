-- What the loop of `add_quoted_bytes` keeps: the bytes that it has passed, between single quotes.
use Rattle.std.proofs.Common.{◌≡◌, ◌++◌, take}
use Rattle.std.specs.List.{flat_map}
use Rattle.html_pages.specs.Commands.{quoted_byte}
use Rattle.html_pages.proofs.commands.add_quoted_bytes.Given as goal

abbrev pub invariant-loop-b : goal.invariant-loop-b
invariant-loop-b l = l.text.items ≡ l.fn.text.items ++ flat_map quoted_byte (take l.b-index l.word)
