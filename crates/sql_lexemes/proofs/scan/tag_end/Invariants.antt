-- What the loop of `tag_end` keeps: the end is that of what is left; and by what it ends.
use Rattle.std.proofs.Common.{◌≡◌, ◌+◌, length}
use Rattle.sql_lexemes.specs.Ends.{tag_end}
use Rattle.sql_lexemes.proofs.scan.tag_end.Given as goal

abbrev pub invariant-loop-rest : goal.invariant-loop-rest
invariant-loop-rest l = (tag_end l.tag 0 l.text ≡ tag_end l.tag l.passed l.rest) × (l.passed + length l.rest ≡ length l.text)

abbrev pub decreases-loop-rest : goal.decreases-loop-rest
decreases-loop-rest l = length l.rest
