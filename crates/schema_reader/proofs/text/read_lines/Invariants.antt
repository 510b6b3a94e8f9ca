-- What the loop of `read_lines` keeps: `Reads`; and by what it ends.
use Rattle.std.proofs.Common.{length}
use Rattle.schema_reader.specs.Views.{declarations_of_draft}
use Rattle.schema_reader.proofs.TextLemmas.{Reads}
use Rattle.schema_reader.proofs.text.read_lines.Given as goal

abbrev pub invariant-lines : goal.invariant-lines
invariant-lines l = Reads l.format l.fn.number l.fn.text (declarations_of_draft l.draft) l.number l.rest

abbrev pub decreases-lines : goal.decreases-lines
decreases-lines l = length l.rest
