-- What the loop of `read_definition` keeps: `IsReading`; and by what it ends.
use Rattle.sql_definitions.proofs.ReadingLemmas.{IsReading, rest_size}
use Rattle.sql_definitions.proofs.reading.read_definition.Given as goal

abbrev pub invariant-statements : goal.invariant-statements
invariant-statements l = IsReading l.dialect l.wanted l.text l.rest l.definition

abbrev pub decreases-statements : goal.decreases-statements
decreases-statements l = rest_size l.rest
