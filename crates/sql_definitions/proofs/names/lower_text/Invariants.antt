-- What the loop of `lower_text` keeps: what was added and what is left are the whole; and by what it ends.
use Rattle.std.proofs.Common.{◌≡◌, ◌++◌, length}
use Rattle.sql_definitions.specs.Names.{lower_text}
use Rattle.sql_definitions.proofs.names.lower_text.Given as goal

abbrev pub invariant-loop-rest : goal.invariant-loop-rest
invariant-loop-rest l = l.name.items ++ lower_text l.rest ≡ lower_text l.text

abbrev pub decreases-loop-rest : goal.decreases-loop-rest
decreases-loop-rest l = length l.rest
