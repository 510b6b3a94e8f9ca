-- What the loop of `comment_end` keeps: the end is that of what is left; and by what it ends.
use Rattle.std.proofs.Common.{◌≡◌, ◌+◌, ◌≤◌, length}
use Rattle.sql_lexemes.specs.Ends.{comment_end}
use Rattle.sql_lexemes.proofs.scan.comment_end.Given as goal

abbrev pub invariant-loop-rest : goal.invariant-loop-rest
invariant-loop-rest l =
    (comment_end l.nests 0 0 0 l.text ≡ comment_end l.nests l.around l.last l.passed l.rest)
    × (l.passed + length l.rest ≡ length l.text) × (l.around ≤ l.passed)

abbrev pub decreases-loop-rest : goal.decreases-loop-rest
decreases-loop-rest l = length l.rest
