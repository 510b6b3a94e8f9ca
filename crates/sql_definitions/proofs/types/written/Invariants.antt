-- What the loop of `written` keeps: what was added and what is left are the whole; and by what it ends.
use Rattle.std.proofs.Common.{◌≡◌, ◌++◌, true, length}
use Rattle.sql_definitions.specs.Types.{written}
use Rattle.sql_definitions.proofs.types.written.Given as goal

abbrev pub invariant-loop-rest : goal.invariant-loop-rest
invariant-loop-rest l = l.text.items ++ written l.joined l.rest ≡ written true l.lexemes

abbrev pub decreases-loop-rest : goal.decreases-loop-rest
decreases-loop-rest l = length l.rest
