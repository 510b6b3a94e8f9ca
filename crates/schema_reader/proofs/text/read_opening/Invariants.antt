-- What the loop of `read_opening` keeps: `Opens`; and by what it ends.
use Rattle.std.proofs.Common.{length}
use Rattle.schema_reader.proofs.TextLemmas.{Opens}
use Rattle.schema_reader.proofs.text.read_opening.Given as goal

abbrev pub invariant-lines : goal.invariant-lines
invariant-lines l = Opens l.fn.text l.number l.rest

abbrev pub decreases-lines : goal.decreases-lines
decreases-lines l = length l.rest
