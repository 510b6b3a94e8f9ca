-- What the loop of `list_parts` keeps: what is left, after the parts so far, comes to the same; and by what it ends.
use Rattle.std.proofs.Common.{◌≡◌, true, [], length}
use Rattle.sql_definitions.specs.Lists.{list_parts}
use Rattle.sql_definitions.proofs.lists.list_parts.Given as goal

abbrev pub invariant-loop-rest : goal.invariant-loop-rest
invariant-loop-rest l =
    list_parts l.dialect l.end l.depth true [] l.lexemes ≡ list_parts l.dialect l.end l.depth l.begins l.parts.items l.rest

abbrev pub decreases-loop-rest : goal.decreases-loop-rest
decreases-loop-rest l = length l.rest
