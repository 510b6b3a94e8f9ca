-- What the loop of `are_columns` keeps: the parts are columns where those that are left are; and by what it ends.
use Rattle.std.proofs.Common.{◌≡◌, true, length}
use Rattle.sql_definitions.specs.Lists.{are_columns}
use Rattle.sql_definitions.proofs.lists.are_columns.Given as goal

abbrev pub invariant-loop-rest : goal.invariant-loop-rest
invariant-loop-rest l = are_columns l.depth true l.lexemes ≡ are_columns l.depth l.begins l.rest

abbrev pub decreases-loop-rest : goal.decreases-loop-rest
decreases-loop-rest l = length l.rest
