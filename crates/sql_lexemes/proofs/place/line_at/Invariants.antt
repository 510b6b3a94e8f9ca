-- What the loop of `line_at` keeps: the line after what was passed, within its bound.
use Rattle.std.proofs.Common.{◌≡◌, ◌+◌, ◌≤◌, take}
use Rattle.sql_lexemes.specs.Places.{line_after}
use Rattle.sql_lexemes.proofs.place.line_at.Given as goal

abbrev pub invariant-loop-byte : goal.invariant-loop-byte
invariant-loop-byte l = (l.line ≡ line_after (take l.byte-index l.front)) × (l.line ≤ l.byte-index + 1)
