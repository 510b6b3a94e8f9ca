-- What the loop of `type_text` keeps: what was added and what is left are the whole; and by what it ends.
use Rattle.std.proofs.Common.{◌≡◌, ◌++◌, true, length}
use Rattle.sql_definitions.specs.Types.{type_text}
use Rattle.sql_definitions.proofs.types.type_text.Given as goal

abbrev pub invariant-loop-rest : goal.invariant-loop-rest
invariant-loop-rest l = l.text.items ++ type_text l.first l.rest ≡ type_text true l.lexemes

abbrev pub decreases-loop-rest : goal.decreases-loop-rest
decreases-loop-rest l = length l.rest
