-- What the loop of `element_length` keeps: what was passed and what is left are the whole; and by what it ends.
use Rattle.std.proofs.Common.{◌≡◌, ◌+◌, ◌≤◌, length}
use Rattle.sql_definitions.specs.Tables.{length_left}
use Rattle.sql_definitions.proofs.tables.element_length.Given as goal

abbrev pub invariant-loop-rest : goal.invariant-loop-rest
invariant-loop-rest l =
    (length_left 0 l.lexemes ≡ l.passed + length_left l.depth l.rest)
    × (l.passed + length l.rest ≡ length l.lexemes) × (l.depth ≤ l.passed)

abbrev pub decreases-loop-rest : goal.decreases-loop-rest
decreases-loop-rest l = length l.rest
