-- What the loop of `says_not_null` keeps: what is left says it where the whole does; and by what it ends.
use Rattle.std.proofs.Common.{◌≡◌, length}
use Rattle.sql_definitions.specs.Elements.{says_not_null}
use Rattle.sql_definitions.proofs.columns.says_not_null.Given as goal

abbrev pub invariant-loop-rest : goal.invariant-loop-rest
invariant-loop-rest l = says_not_null l.lexemes ≡ says_not_null l.rest

abbrev pub decreases-loop-rest : goal.decreases-loop-rest
decreases-loop-rest l = length l.rest
