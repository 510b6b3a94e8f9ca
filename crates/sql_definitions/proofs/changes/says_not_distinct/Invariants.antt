-- What the loop of `says_not_distinct` keeps: the words stand in what is left; and by what it ends.
use Rattle.std.proofs.Common.{◌≡◌, length}
use Rattle.sql_definitions.specs.Tables.{says_not_distinct}
use Rattle.sql_definitions.proofs.changes.says_not_distinct.Given as goal

abbrev pub invariant-loop-rest : goal.invariant-loop-rest
invariant-loop-rest l = says_not_distinct l.lexemes ≡ says_not_distinct l.rest

abbrev pub decreases-loop-rest : goal.decreases-loop-rest
decreases-loop-rest l = length l.rest
