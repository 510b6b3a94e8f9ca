-- What the loop of `add_escaped` keeps: with what is left of the value it is the whole text.
use Rattle.std.proofs.Common.{◌≡◌, ◌++◌, drop}
use Rattle.destinations.specs.Sql.{escaped_after}
use Rattle.destinations.proofs.sql_line.add_escaped.Given as goal

-- the bytes so far, and those that are left
abbrev pub invariant-loop-byte : goal.invariant-loop-byte
invariant-loop-byte l =
    l.text.items ++ escaped_after l.last (drop l.byte-index l.value) ≡ l.fn.text.items ++ escaped_after 0 l.value
