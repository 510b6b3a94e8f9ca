-- What the loop of `column_at` keeps: the column after what was passed, within its bound.
use Rattle.std.proofs.Common.{◌≡◌, ◌+◌, ◌≤◌, take}
use Rattle.sql_lexemes.specs.Places.{column_after}
use Rattle.sql_lexemes.proofs.place.column_at.Given as goal

abbrev pub invariant-loop-byte : goal.invariant-loop-byte
invariant-loop-byte l = (l.column ≡ column_after (take l.byte-index l.front)) × (l.column ≤ l.byte-index + 1)
